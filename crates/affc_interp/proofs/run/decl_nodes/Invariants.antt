use Rattle.std.proofs.Common.{◌≡◌, ◌+◌, drop}
use Rattle.affc_ast.specs.Meaning.{nodes_of_decls}
use Rattle.affc_interp.proofs.run.decl_nodes.Given as goal

abbrev pub invariant-loop-d : goal.invariant-loop-d
invariant-loop-d l = l.count + nodes_of_decls (drop l.d-index l.decls) ≡ nodes_of_decls l.decls

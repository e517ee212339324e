use Rattle.std.proofs.Common.{◌≡◌, ◌+◌, drop, map}
use Rattle.affc_ast.specs.Conditions.{reading_of, nodes_of_cond, nodes_of_entries}
use Rattle.affc_interp.proofs.index.+cond_nodes.Given as goal

abbrev pub decreases-cond_nodes : goal.decreases-cond_nodes
decreases-cond_nodes l = goal.size-cond_nodes l

abbrev pub invariant-loop-entry : goal.invariant-loop-entry
invariant-loop-entry l = l.count + nodes_of_entries (map reading_of (drop l.entry-index l.entry-items)) ≡ nodes_of_cond l.c

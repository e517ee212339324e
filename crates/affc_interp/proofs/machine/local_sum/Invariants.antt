use Rattle.std.proofs.Common.{◌≡◌, ◌+◌, drop}
use Rattle.affc_ast.specs.Meaning.{nodes_of_locals}
use Rattle.affc_interp.proofs.machine.local_sum.Given as goal

abbrev pub invariant-loop-l : goal.invariant-loop-l
invariant-loop-l l = l.count + nodes_of_locals (drop l.l-index l.locals) ≡ nodes_of_locals l.locals

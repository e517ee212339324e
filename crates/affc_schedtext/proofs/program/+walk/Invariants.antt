use Rattle.std.proofs.Common.{◌≡◌, ◌++◌, drop, map}
use Rattle.affc_ast.specs.Recursion.{by_stmt}
use Rattle.affc_ast.specs.Trace.{joined}
use Rattle.affc_domain.specs.Rounds.{rounds_step}
use Rattle.affc_schedtext.specs.Walking.{iterators_under}
use Rattle.affc_schedtext.proofs.program.+walk.Given as goal

abbrev pub invariant-walk_all-loop-s : goal.invariant-walk_all-loop-s
invariant-walk_all-loop-s l =
    l.out ++ iterators_under l.around (joined (map (by_stmt rounds_step) (drop l.s-index l.body)))
    ≡ l.fn.out ++ iterators_under l.around (joined (map (by_stmt rounds_step) l.body))

use Rattle.std.proofs.Common.{◌≡◌, ◌++◌, length, map, reverse}
use Rattle.affc_syntax.specs.draft.Drafts.{compare}
use Rattle.affc_syntax.proofs.Comparisons.{taken}
use Rattle.affc_syntax.proofs.condition.last_first.Given as goal

abbrev pub invariant-loop-x : goal.invariant-loop-x
invariant-loop-x l = taken l.conds ++ reverse (map compare l.back) ≡ taken l.fn.conds

abbrev pub decreases-loop-x : goal.decreases-loop-x
decreases-loop-x l = length l.conds

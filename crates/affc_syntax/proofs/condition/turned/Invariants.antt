use Rattle.std.proofs.Common.{◌≡◌, ◌++◌, length, map, reverse}
use Rattle.affc_syntax.specs.draft.Drafts.{compare}
use Rattle.affc_syntax.proofs.condition.turned.Given as goal

abbrev pub invariant-loop-c : goal.invariant-loop-c
invariant-loop-c l = map compare l.comparisons ++ reverse (map compare l.back) ≡ reverse (map compare l.fn.back)

abbrev pub decreases-loop-c : goal.decreases-loop-c
decreases-loop-c l = length l.back

use Rattle.std.proofs.Common.{◌≡◌}
use Rattle.affc_syntax.specs.draft.Drafts.{value}
use Rattle.affc_syntax.specs.ValueReading.{complements}
use Rattle.affc_syntax.proofs.value.complements.Given as goal

abbrev pub invariant-loop-left : goal.invariant-loop-left
invariant-loop-left l = complements l.left (value l.v) ≡ complements l.fn.tildes (value l.fn.a)

abbrev pub decreases-loop-left : goal.decreases-loop-left
decreases-loop-left l = l.left

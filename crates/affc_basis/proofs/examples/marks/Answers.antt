use Rattle.affc_basis.proofs.MarkExamples as x
use Rattle.affc_basis.proofs.examples.marks.Goals as goal

pub returns : goal.returns
returns c = record { needs_three = x.blur_needs_three; three_is_enough = x.three_is_enough; of_the_blur = x.marks_of_the_blur; elsewhere = x.marks_elsewhere; one_is_enough = x.one_is_enough; one_has_no_pair = x.one_has_no_pair }

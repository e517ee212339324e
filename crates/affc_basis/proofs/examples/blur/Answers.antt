use Rattle.affc_basis.proofs.ExampleProofs as x
use Rattle.affc_basis.proofs.MarkExamples as m
use Rattle.affc_basis.proofs.examples.blur.Goals as goal

pub returns : goal.returns
returns c = record { needs_two = x.blur_needs_two; only_two = m.only_two_is_greatest; three_obeys = x.three_obeys; two_is_too_few = x.two_is_too_few; three_is_least = x.three_is_least }

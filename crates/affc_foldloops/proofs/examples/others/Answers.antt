use Rattle.affc_foldloops.proofs.ExampleProofs as x
use Rattle.affc_foldloops.proofs.examples.others.Goals as goal

pub returns : goal.returns
returns c = record { dont_stand = x.others_dont_stand; two_are_too_few = x.two_are_too_few }

use Rattle.affc_loopends.proofs.ExampleProofs as x
use Rattle.affc_loopends.proofs.examples.halves.Goals as goal

pub returns : goal.returns
returns c = record { rational = x.one_and_a_half; none_is_whole = x.none_is_whole }

use Rattle.affc_moduli.proofs.ExampleProofs as example
use Rattle.affc_moduli.proofs.examples.distances.Goals as goal

pub returns : goal.returns
returns c = record { farthest = example.two_is_farthest; sides = example.one_side_is_too_little; suitable = example.three_suits }

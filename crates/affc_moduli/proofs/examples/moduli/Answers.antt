use Rattle.affc_moduli.proofs.ExampleProofs as example
use Rattle.affc_moduli.proofs.examples.moduli.Goals as goal

pub returns : goal.returns
returns c = record { done = example.three_is_done; constants = example.bounds_are_constants; last = example.bounds_come_last; turned = example.marks_may_turn }

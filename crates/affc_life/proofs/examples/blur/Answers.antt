use Rattle.affc_life.proofs.ExampleProofs as example
use Rattle.affc_life.proofs.examples.blur.Goals as goal

pub returns : goal.returns
returns c = record { twelve = example.blur_has_twelve; six = example.blur_has_six; others = example.others_have_none; middle = example.middle_clashes }

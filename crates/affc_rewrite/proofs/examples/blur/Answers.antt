use Rattle.affc_rewrite.proofs.ExampleProofs as x
use Rattle.affc_rewrite.proofs.examples.blur.Goals as goal

pub returns : goal.returns
returns c = record { is_folded = x.blur_is_folded; nothing_is_folded = x.nothing_is_folded; by_parameters = x.blur_by_parameters; by_extents = x.blur_by_extents }

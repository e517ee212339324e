use Rattle.affc_safe.proofs.OverflowProofs as x
use Rattle.affc_safe.proofs.examples.plain.Goals as goal

pub returns : goal.returns
returns c = record { is_plain = x.blur_is_plain; ends = x.blur_ends }

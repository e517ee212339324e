use Rattle.affc_floor.proofs.ExampleProofs.{blur_is_live, source_order_is_live, three_at_four, input_is_not_live}
use Rattle.affc_floor.proofs.examples.blur.Goals as goal

pub returns : goal.returns
returns c = record { live = blur_is_live; source_order = source_order_is_live; three_at_four = three_at_four; input = input_is_not_live }

use Rattle.affc_leaf.proofs.Boxes.{box_rows_are_the_box}
use Rattle.affc_leaf.proofs.laws.box_rows_are_the_box.Goals as goal

pub returns : goal.returns
returns c = box_rows_are_the_box

use Rattle.affc_leaf.proofs.Orders.{ten_times_five, first_column_decides}
use Rattle.affc_leaf.proofs.examples.boxes.Goals as goal

pub returns : goal.returns
returns c = record { ten_times_five = ten_times_five; first_column_decides = first_column_decides }

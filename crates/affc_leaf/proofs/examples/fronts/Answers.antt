use Rattle.affc_leaf.proofs.SmallFronts.{least_column_is_a_front, later_column_is_no_front, wider_part_is_no_front, box_is_its_own_front, one_value_is_left, first_column_is_pinned, turned_range_is_none}
use Rattle.affc_leaf.proofs.examples.fronts.Goals as goal

pub returns : goal.returns
returns c = record {
  least_column_is_a_front = least_column_is_a_front;
  later_column_is_no_front = later_column_is_no_front;
  wider_part_is_no_front = wider_part_is_no_front;
  box_is_its_own_front = box_is_its_own_front;
  one_value_is_left = one_value_is_left;
  first_column_is_pinned = first_column_is_pinned;
  turned_range_is_none = turned_range_is_none;
}

use Rattle.affc_leaf.proofs.ExampleProofs.{sum_below_zero_is_seen, cut_is_the_next_row, split_of_more_is_not_seen, box_with_a_point_is_not_empty, least_point_is_seen, nothing_may_be_seen}
use Rattle.affc_leaf.proofs.examples.seen.Goals as goal

pub returns : goal.returns
returns c = record {
  sum_below_zero_is_seen = sum_below_zero_is_seen;
  cut_is_the_next_row = cut_is_the_next_row;
  split_of_more_is_not_seen = split_of_more_is_not_seen;
  box_with_a_point_is_not_empty = box_with_a_point_is_not_empty;
  least_point_is_seen = least_point_is_seen;
  nothing_may_be_seen = nothing_may_be_seen;
}

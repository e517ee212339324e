use Rattle.affc_eliminate.proofs.project.ExampleProofs as x
use Rattle.affc_eliminate.proofs.project.examples.ends.Goals as goal

pub returns : goal.returns
returns c = record {
  no_point_leaves_minus_one = x.no_point_leaves_minus_one;
  no_point_leaves_some_row = x.no_point_leaves_some_row;
  point_leaves_no_row = x.point_leaves_no_row;
  all_columns_are_kept = x.all_columns_are_kept;
}

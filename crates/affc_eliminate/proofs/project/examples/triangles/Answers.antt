use Rattle.affc_eliminate.proofs.project.ExampleProofs as x
use Rattle.affc_eliminate.proofs.project.examples.triangles.Goals as goal

pub returns : goal.returns
returns c = record {
  over_x = x.triangle_over_x;
  one_row_is_too_few = x.one_row_is_too_few;
  twice_is_not_least = x.twice_is_not_least;
  only_later_columns = x.only_later_columns;
}

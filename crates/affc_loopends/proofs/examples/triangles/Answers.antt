use Rattle.affc_loopends.proofs.ExampleProofs as x
use Rattle.affc_loopends.proofs.OtherEndProofs as y
use Rattle.affc_loopends.proofs.examples.triangles.Goals as goal

pub returns : goal.returns
returns c = record {
  rows = x.triangle_rows;
  one_one = x.one_one;
  halves = x.halves;
  divisor = x.the_divisor;
  not_above = x.not_above;
  below = x.below;
  beside_the_other_end = y.beside_the_other_end;
  not_by_one_end = y.not_by_one_end;
}

use Rattle.affc_loopends.proofs.scanned.ExampleProofs as x
use Rattle.affc_loopends.proofs.scanned.Refusals as y
use Rattle.affc_loopends.proofs.scanned.examples.reverses.Goals as goal

pub returns : goal.returns
returns c = record {
  has_loops = x.has_loops;
  scans = x.scans;
  none_left_out = y.no_row_is_left_out;
  none_where_loose = y.no_rows_where_loose;
  own_order = y.own_order;
}

use Rattle.affc_loops.proofs.RowLaws.{rows_hold_times}
use Rattle.affc_loops.proofs.laws.rows_hold_times.Goals as goal

pub returns : goal.returns
returns c = record { law = rows_hold_times }

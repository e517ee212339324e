use Rattle.affc_loops.proofs.RowLaws.{turns_meet_rows}
use Rattle.affc_loops.proofs.laws.turns_meet_rows.Goals as goal

pub returns : goal.returns
returns c = record { law = turns_meet_rows }

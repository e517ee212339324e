use Rattle.affc_loopends.proofs.Extended as lemma
use Rattle.affc_loopends.proofs.laws.time_rows_are_exact.Goals as goal

pub returns : goal.returns
returns c = record { law = lemma.rows_are_exact }

use Rattle.affc_loopends.proofs.Statements as lemma
use Rattle.affc_loopends.proofs.laws.entries_are_timed.Goals as goal

pub returns : goal.returns
returns c = record { law = lemma.entries_are_timed }

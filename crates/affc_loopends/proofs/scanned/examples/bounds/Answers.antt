use Rattle.affc_loopends.proofs.scanned.Numbered as lemma
use Rattle.affc_loopends.proofs.scanned.examples.bounds.Goals as goal

pub returns : goal.returns
returns c = record { rows = lemma.rows_of_bounds; loose = lemma.loose_are_numbered }

use Rattle.affc_loopends.proofs.scanned.Same as lemma
use Rattle.affc_loopends.proofs.scanned.laws.same_loops_scan.Goals as goal

pub returns : goal.returns
returns c = record { law = lemma.same_loops_scan }

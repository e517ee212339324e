use Rattle.affc_loopends.proofs.scanned.ScanLaws as lemma
use Rattle.affc_loopends.proofs.scanned.laws.scans_run_between.Goals as goal

pub returns : goal.returns
returns c = record { law = lemma.run_between }

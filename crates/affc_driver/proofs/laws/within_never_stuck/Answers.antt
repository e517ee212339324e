use Rattle.affc_driver.proofs.Compiled as lemma
use Rattle.affc_driver.proofs.laws.within_never_stuck.Goals as goal

pub returns : goal.returns
returns c = record { law = lemma.within_never_stuck }

use Rattle.affc_driver.proofs.Ranked as lemma
use Rattle.affc_driver.proofs.laws.reads_naming_arrays.Goals as goal

pub returns : goal.returns
returns c = record { law = lemma.reads_naming_arrays }

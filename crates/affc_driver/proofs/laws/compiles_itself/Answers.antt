use Rattle.affc_driver.proofs.Compiled as lemma
use Rattle.affc_driver.proofs.laws.compiles_itself.Goals as goal

pub returns : goal.returns
returns c = record { law = lemma.compiles_itself }

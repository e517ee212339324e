use Rattle.affc_driver.proofs.Compiled as lemma
use Rattle.affc_driver.proofs.laws.named_is_written.Goals as goal

pub returns : goal.returns
returns c = record { law = lemma.named_is_written }

use Rattle.affc_driver.proofs.Complete.{sound_is_not_refused}
use Rattle.affc_cli.proofs.LawProofs as lemma
use Rattle.affc_cli.proofs.laws.flow_ends.Goals as goal

pub returns : goal.returns
returns c = record { law = lemma.flow_ends sound_is_not_refused }

use Rattle.affc_cli.proofs.LeftProofs as lemma
use Rattle.affc_cli.proofs.laws.refusals_write_nothing.Goals as goal

pub returns : goal.returns
returns c = record { law = lemma.refusals_write_nothing }

use Rattle.affc_plain.proofs.NoLocals as lemma
use Rattle.affc_plain.proofs.laws.plain_has_no_locals.Goals as goal

pub returns : goal.returns
returns c = record { law = lemma.plain_has_no_locals }

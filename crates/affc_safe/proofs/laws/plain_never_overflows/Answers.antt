use Rattle.affc_safe.proofs.PlainNear as lemma
use Rattle.affc_safe.proofs.laws.plain_never_overflows.Goals as goal

pub returns : goal.returns
returns c = record { law = lemma.plain_never_overflows }

use Rattle.affc_safe.proofs.FitsThere as lemma
use Rattle.affc_safe.proofs.laws.safe_is_never_stuck.Goals as goal

pub returns : goal.returns
returns c = record { law = lemma.safe_is_never_stuck }

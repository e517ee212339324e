use Rattle.affc_safe.proofs.SafeLaws as lemma
use Rattle.affc_safe.proofs.laws.stuck_for_a_value.Goals as goal

pub returns : goal.returns
returns c = record { law = lemma.stuck_for_a_value }

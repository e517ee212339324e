use Rattle.affc_nest.proofs.AccessLemmas as lemma
use Rattle.affc_nest.proofs.laws.context_is_the_context.Goals as goal

pub returns : goal.returns
returns c = record { law = lemma.context_is_the_context }

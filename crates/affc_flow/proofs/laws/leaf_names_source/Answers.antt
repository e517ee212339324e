use Rattle.affc_flow.proofs.NamesLemmas as lemma
use Rattle.affc_flow.proofs.laws.leaf_names_source.Goals as goal

pub returns : goal.returns
returns c = record { law = lemma.leaf_names_source }

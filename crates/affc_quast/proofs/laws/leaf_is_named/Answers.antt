use Rattle.affc_quast.proofs.LeafLemmas as lemma
use Rattle.affc_quast.proofs.laws.leaf_is_named.Goals as goal

pub returns : goal.returns
returns c = record { law = lemma.leaf_is_named }

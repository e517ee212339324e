use Rattle.affc_quast.proofs.RangeLemmas as lemma
use Rattle.affc_quast.proofs.laws.leaf_is_boxed.Goals as goal

pub returns : goal.returns
returns c = record { law = lemma.leaf_is_boxed }

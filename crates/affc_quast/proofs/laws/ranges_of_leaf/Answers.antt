use Rattle.affc_quast.proofs.RangeLemmas as lemma
use Rattle.affc_quast.proofs.laws.ranges_of_leaf.Goals as goal

pub returns : goal.returns
returns c = record { law = lemma.ranges_of_leaf }

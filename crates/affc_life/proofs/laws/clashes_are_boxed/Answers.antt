use Rattle.affc_life.proofs.BoxedLemmas as lemma
use Rattle.affc_life.proofs.laws.clashes_are_boxed.Goals as goal

pub returns : goal.returns
returns c = record { law = lemma.clashes_are_boxed }

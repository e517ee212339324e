use Rattle.affc_life.proofs.LiveLemmas as lemma
use Rattle.affc_life.proofs.laws.elements_differ.Goals as goal

pub returns : goal.returns
returns c = record { law = lemma.elements_differ }

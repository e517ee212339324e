use Rattle.affc_life.proofs.LiveLemmas as lemma
use Rattle.affc_life.proofs.laws.clashes_are_live_pairs.Goals as goal

pub returns : goal.returns
returns c = record { law = lemma.clashes_are_live_pairs }

use Rattle.affc_life.proofs.ConflictLemmas as lemma
use Rattle.affc_life.proofs.laws.clashes_are_conflicts.Goals as goal

pub returns : goal.returns
returns c = record { law = lemma.clashes_are_conflicts }

use Rattle.affc_life.proofs.FoundLemmas as lemma
use Rattle.affc_life.proofs.laws.found_trees_keep_limits.Goals as goal

pub returns : goal.returns
returns c = record { law = lemma.found_trees_keep_limits }

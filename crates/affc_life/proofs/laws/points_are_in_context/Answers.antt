use Rattle.affc_life.proofs.LiveLemmas as lemma
use Rattle.affc_life.proofs.laws.points_are_in_context.Goals as goal

pub returns : goal.returns
returns c = record { law = lemma.points_are_in_context }

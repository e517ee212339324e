use Rattle.affc_nest.proofs.QuestionLemmas as lemma
use Rattle.affc_nest.proofs.laws.extent_point.Goals as goal

pub returns : goal.returns
returns c = record { law = lemma.extent_point }

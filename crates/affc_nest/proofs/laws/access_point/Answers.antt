use Rattle.affc_nest.proofs.QuestionLemmas as lemma
use Rattle.affc_nest.proofs.laws.access_point.Goals as goal

pub returns : goal.returns
returns c = record { law = lemma.access_point }

use Rattle.affc_nest.proofs.QuestionLemmas as lemma
use Rattle.affc_nest.proofs.laws.questions_decide.Goals as goal

pub returns : goal.returns
returns c = record { law = lemma.questions_decide }

use Rattle.affc_nest.proofs.QuestionProofs as lemma
use Rattle.affc_nest.proofs.laws.questions_are_asked.Goals as goal

pub returns : goal.returns
returns c = record { nests = lemma.nests_are_asked; extents = lemma.extents_are_asked; subscripts = lemma.subscripts_are_asked; entries = lemma.entries_are_asked }

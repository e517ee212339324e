use Rattle.affc_life.proofs.SizeLemmas as lemma
use Rattle.affc_life.proofs.laws.found_trees_leave_room.Goals as goal

pub returns : goal.returns
returns c = record { law = lemma.found_trees_leave_room }

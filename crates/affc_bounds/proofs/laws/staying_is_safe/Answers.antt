use Rattle.affc_bounds.proofs.LawProofs as lemma
use Rattle.affc_bounds.proofs.laws.staying_is_safe.Goals as goal

pub returns : goal.returns
returns c = record { safe = lemma.staying_is_safe; ends = lemma.staying_ends }

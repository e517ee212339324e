use Rattle.affc_loopends.proofs.bounding.Bounded as lemma
use Rattle.affc_loopends.proofs.bounding.laws.columns_have_bounds.Goals as goal

pub returns : goal.returns
returns c = record { law = lemma.columns_have_bounds }

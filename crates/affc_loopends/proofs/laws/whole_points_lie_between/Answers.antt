use Rattle.affc_loopends.proofs.Extended as lemma
use Rattle.affc_loopends.proofs.laws.whole_points_lie_between.Goals as goal

pub returns : goal.returns
returns c = record { law = lemma.whole_points_lie_between }

use Rattle.affc_loopends.proofs.Instances as lemma
use Rattle.affc_loopends.proofs.laws.instances_are_time_points.Goals as goal

pub returns : goal.returns
returns c = record { law = lemma.instance_is_time_point }

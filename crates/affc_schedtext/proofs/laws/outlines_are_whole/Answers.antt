use Rattle.affc_schedtext.proofs.LoopsRound.{loops_are, parameters_are}
use Rattle.affc_schedtext.proofs.laws.outlines_are_whole.Goals as goal

pub returns : goal.returns
returns c = record { loops = loops_are; parameters = parameters_are }

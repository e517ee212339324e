-- Each example computes.
use Rattle.std.proofs.Common.{refl}
use Rattle.std.specs.Fmt.{digits}
use Rattle.affc_generate.specs.Stages.{for_front, for_behind, head_front, head_behind, schedule_front}
use Rattle.affc_generate.specs.Examples.{OneStage, TwoStages, ThreeStages, TwoTimes, ThreeTimes}

pub one_stage : OneStage
unfolding digits for_front for_behind head_front head_behind
one_stage = refl

pub two_stages : TwoStages
unfolding digits for_front for_behind head_front head_behind
two_stages = refl

pub two_times : TwoTimes
unfolding digits schedule_front
two_times = refl

pub three_stages : ThreeStages
unfolding digits for_front for_behind head_front head_behind
three_stages = refl

pub three_times : ThreeTimes
unfolding digits schedule_front
three_times = refl

use Rattle.std.proofs.Common.{arith}
use Rattle.affc_generate.specs.Stages as specs
use Rattle.affc_generate.proofs.Texts.{more_from_one}
use Rattle.affc_generate.proofs.stages.schedule.Goals as goal

pub loop-k-preserved : goal.loop-k-preserved
loop-k-preserved c = (omega arith, more_from_one _ _ _ specs.line c.loop-k.k c.loop-k.invariant.0 c.loop-k.invariant.1 c.in_ok-add_line.ensures)

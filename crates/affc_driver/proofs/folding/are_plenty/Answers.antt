use Rattle.std.proofs.Common.{◌<◌, ◌^◌, ◌∙◌, ap₂, leb, arith}
use Rattle.affc_bounds.specs.threshold.Thresholds.{threshold}
use Rattle.affc_driver.proofs.Counted.{stopped_reaches}
use Rattle.affc_driver.proofs.folding.are_plenty.Goals as goal

pub returns : goal.returns
returns c =
    let few : c.args.units < 2 ^ 64 = omega arith in
    ap₂ leb c.bound.ensures c.from.ensures ∙ stopped_reaches (threshold c.args.nest.now c.args.schedule.now) c.args.units few

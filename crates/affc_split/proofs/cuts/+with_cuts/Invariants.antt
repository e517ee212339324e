use Rattle.std.proofs.Common.{◌-◌}
use Rattle.affc_split.proofs.cuts.+with_cuts.Given as goal

abbrev pub decreases-with_cuts : goal.decreases-with_cuts
decreases-with_cuts l = l.count - l.from

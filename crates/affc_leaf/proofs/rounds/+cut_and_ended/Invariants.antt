use Rattle.std.proofs.Common.{◌-◌, length}
use Rattle.affc_leaf.proofs.rounds.+cut_and_ended.Given as goal

abbrev pub decreases-cut_and_ended : goal.decreases-cut_and_ended
decreases-cut_and_ended l = length l.rounds.now.cuts.items - l.from

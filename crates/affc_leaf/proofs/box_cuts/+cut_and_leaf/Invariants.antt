use Rattle.std.proofs.Common.{◌-◌, length}
use Rattle.affc_leaf.proofs.box_cuts.+cut_and_leaf.Given as goal

abbrev pub decreases-cut_and_leaf : goal.decreases-cut_and_leaf
decreases-cut_and_leaf l = length l.plan.now.cuts.items - l.from

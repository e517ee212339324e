use Rattle.std.proofs.Common.{◌+◌, length}
use Rattle.affc_folds.proofs.ChoiceLemmas.{weight}
use Rattle.affc_folds.proofs.systems.+choices.Given as goal

abbrev pub decreases-add_behind : goal.decreases-add_behind
decreases-add_behind l = weight l.later.now + 1

abbrev pub decreases-add_each : goal.decreases-add_each
decreases-add_each l = weight l.later.now + 2 + length l.first.now

abbrev pub decreases-add_factors : goal.decreases-add_factors
decreases-add_factors l = weight l.factors.now

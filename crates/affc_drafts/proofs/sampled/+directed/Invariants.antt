use Rattle.std.proofs.Common.{◌+◌, ◌*◌}
use Rattle.affc_drafts.proofs.sampled.+directed.Given as goal

abbrev pub decreases-add_directed : goal.decreases-add_directed
decreases-add_directed l = 2 * l.left

abbrev pub decreases-add_choices : goal.decreases-add_choices
decreases-add_choices l = 2 * l.left + 1

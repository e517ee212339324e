use Rattle.std.proofs.Common.{length}
use Rattle.affc_bounds.proofs.threshold.threshold.+most_turns.Given as goal

abbrev pub decreases-most_turns : goal.decreases-most_turns
decreases-most_turns l = length l.entries.now

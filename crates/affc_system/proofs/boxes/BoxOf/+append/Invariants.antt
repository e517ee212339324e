use Rattle.std.proofs.Common.{length}
use Rattle.affc_system.proofs.boxes.BoxOf.+append.Given as goal

abbrev pub decreases-append : goal.decreases-append
decreases-append l = length l.ranges.now

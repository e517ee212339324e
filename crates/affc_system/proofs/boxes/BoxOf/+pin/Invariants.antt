use Rattle.std.proofs.Common.{length}
use Rattle.affc_system.proofs.boxes.BoxOf.+pin.Given as goal

abbrev pub decreases-pin : goal.decreases-pin
decreases-pin l = length l.values.now

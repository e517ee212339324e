use Rattle.std.proofs.Common.{length}
use Rattle.affc_latest.proofs.latest.+last_among.Given as goal

abbrev pub decreases-last_among : goal.decreases-last_among
decreases-last_among l = length l.entries.now

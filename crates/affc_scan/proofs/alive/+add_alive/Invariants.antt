use Rattle.std.proofs.Common.{length}
use Rattle.affc_scan.proofs.alive.+add_alive.Given as goal

abbrev pub decreases-add_alive : goal.decreases-add_alive
decreases-add_alive l = length l.entries.now

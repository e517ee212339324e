use Rattle.std.proofs.Common.{length}
use Rattle.affc_nest.proofs.lists.+add_copies.Given as goal

abbrev pub decreases-add_copies : goal.decreases-add_copies
decreases-add_copies l = length l.rows.now

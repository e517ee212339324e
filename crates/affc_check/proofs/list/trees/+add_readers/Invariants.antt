use Rattle.std.proofs.Common.{length}
use Rattle.affc_check.proofs.list.trees.+add_readers.Given as goal

abbrev pub decreases-add_readers : goal.decreases-add_readers
decreases-add_readers l = length l.readers.now

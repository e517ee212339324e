use Rattle.std.proofs.Common.{length}
use Rattle.affc_rows.proofs.vocabulary.+are_opposite.Given as goal

abbrev pub decreases-are_opposite : goal.decreases-are_opposite
decreases-are_opposite l = length l.xs.now

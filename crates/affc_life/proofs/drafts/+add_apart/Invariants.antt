use Rattle.std.proofs.Common.{length}
use Rattle.affc_life.proofs.drafts.+add_apart.Given as goal

abbrev pub decreases-add_apart : goal.decreases-add_apart
decreases-add_apart l = length l.fs.now

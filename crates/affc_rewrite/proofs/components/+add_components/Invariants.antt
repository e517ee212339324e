use Rattle.std.proofs.Common.{length}
use Rattle.affc_rewrite.proofs.components.+add_components.Given as goal

abbrev pub decreases-add_components : goal.decreases-add_components
decreases-add_components l = length l.rows.now

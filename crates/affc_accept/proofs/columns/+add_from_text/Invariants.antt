use Rattle.std.proofs.Common.{length}
use Rattle.affc_accept.proofs.columns.+add_from_text.Given as goal

abbrev pub decreases-add_from_text : goal.decreases-add_from_text
decreases-add_from_text l = length l.loads.now

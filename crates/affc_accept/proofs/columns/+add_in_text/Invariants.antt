use Rattle.std.proofs.Common.{length}
use Rattle.affc_accept.proofs.columns.+add_in_text.Given as goal

abbrev pub decreases-add_in_text : goal.decreases-add_in_text
decreases-add_in_text l = length l.loads.now

use Rattle.std.proofs.Common.{length}
use Rattle.affc_check.proofs.made.+add_moduli.Given as goal

abbrev pub decreases-add_moduli : goal.decreases-add_moduli
decreases-add_moduli l = length l.more.now

use Rattle.std.proofs.Common.{length}
use Rattle.affc_life.proofs.products.+has_choice.Given as goal

abbrev pub decreases-has_choice : goal.decreases-has_choice
decreases-has_choice l = length l.factors.now

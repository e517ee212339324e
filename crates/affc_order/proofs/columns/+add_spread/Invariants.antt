use Rattle.std.proofs.Common.{length}
use Rattle.affc_order.proofs.columns.+add_spread.Given as goal

abbrev pub decreases-add_spread : goal.decreases-add_spread
decreases-add_spread l = length l.forms.now

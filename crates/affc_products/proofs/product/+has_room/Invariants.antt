use Rattle.std.proofs.Common.{length}
use Rattle.affc_products.proofs.product.+has_room.Given as goal

abbrev pub decreases-has_room : goal.decreases-has_room
decreases-has_room l = length l.factors.now

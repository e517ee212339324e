use Rattle.std.proofs.Common.{length}
use Rattle.affc_order.proofs.images.+add_images.Given as goal

abbrev pub decreases-add_images : goal.decreases-add_images
decreases-add_images l = length l.forms.now

use Rattle.std.proofs.Common.{refl, lit≤, lit<}
use Rattle.affc_basis.proofs.ListedBases.{listed_bases}
use Rattle.affc_basis.proofs.listing.of_three.Goals as goal

pub bases-requires : goal.bases-requires
bases-requires c = (lit< tt, (lit< tt, (lit≤ tt, (refl, listed_bases 3))))

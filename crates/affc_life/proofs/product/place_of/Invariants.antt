use Rattle.std.proofs.Common.{◌≡◌, ◌+◌, length, flat_map, drop}
use Rattle.std.specs.Prelude.{slice_get}
use Rattle.affc_life.specs.Products.{systems_in}
use Rattle.affc_life.proofs.product.place_of.Given as goal

abbrev pub invariant-loop-product : goal.invariant-loop-product
invariant-loop-product l =
    (slice_get (flat_map systems_in l.products) l.number ≡ slice_get (flat_map systems_in (drop l.product-index l.products)) l.left)
    × (l.number + length (flat_map systems_in (drop l.product-index l.products)) ≡ length (flat_map systems_in l.products) + l.left)

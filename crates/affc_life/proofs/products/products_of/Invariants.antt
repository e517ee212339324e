use Rattle.std.proofs.Common.{◌≡◌, map, flat_map}
use Rattle.affc_life.specs.Clashes.{clash_of}
use Rattle.affc_life.specs.Drafts.{drafted}
use Rattle.affc_life.specs.Products.{systems_in}
use Rattle.affc_life.specs.Sizes.{AnyLarge}
use Rattle.affc_life.proofs.products.products_of.Given as goal

abbrev pub invariant-loop-draft : goal.invariant-loop-draft
invariant-loop-draft l = (map clash_of (flat_map systems_in l.out.items) ≡ flat_map drafted l.yielded) × (AnyLarge (flat_map drafted l.yielded) → ⊥)

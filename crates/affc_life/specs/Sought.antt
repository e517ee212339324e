-- What seeking an entry by its number came to.
use Rattle.std.specs.Prelude.{◌≡◌, ℕ, ◌+◌, List, length, flat_map, Some, slice_get}
use Rattle.std.specs.List.{All}
use Rattle.affc_rows.specs.Forms.{Affine}
use Rattle.affc_system.specs.Systems.{IsRow}
use Rattle.affc_life.specs.Products.{systems_in, found_system}
use Rattle.affc_life.specs.declared.clash.ClashProduct.{ClashProduct}
use Rattle.affc_life.specs.declared.product.Place.{Place}
use Rattle.affc_life.specs.declared.product.Place.TheVariants as place
use Rattle.affc_life.specs.declared.product.Sought.{Sought}
use Rattle.affc_life.specs.declared.product.Sought.TheVariants.{Choice, Past}

-- the choice with this number, or how far the number is past them all
abbrev pub IsSought : (choices : List (List Affine)) → (number : ℕ) → Sought → Type 0
IsSought choices number (Choice rows) = slice_get choices number ≡ Some rows
IsSought choices number (Past left) = number ≡ length choices + left

-- the clash system with this number, or how far the number is past them all
abbrev pub IsPlace : List ClashProduct → (number : ℕ) → Place → Type 0
IsPlace products number (place.Here f) = (slice_get (flat_map systems_in products) number ≡ Some (found_system f)) × All (IsRow f.product.now.base.system.columns) f.rows
IsPlace products number (place.Past left) = number ≡ length (flat_map systems_in products) + left

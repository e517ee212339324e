-- The pairs of elements at the integer points of systems.
use Rattle.std.specs.Prelude.{◌≡◌, ◌⊎◌, ℤ, List, length, take}
use Rattle.std.specs.List.{Contains}
use Rattle.affc_rows.specs.Forms.{values_of}
use Rattle.affc_system.specs.Systems.{IsPoint}
use Rattle.affc_system.specs.declared.pairs.PairSystem.{PairSystem}

-- x and y are the subscripts of the two elements at a point whose first numbers are p
pub record IsPairAt (system : PairSystem) (p x y : List ℤ) : Type 0 where
  pub point : List ℤ
  pub meets : IsPoint system.system point
  pub parameters : take (length p) point ≡ p
  pub first : values_of system.x.items point ≡ x
  pub second : values_of system.y.items point ≡ y

-- x and y are a pair of one of the systems at p, in either order
pub record IsPairOf (systems : List PairSystem) (p x y : List ℤ) : Type 0 where
  pub system : PairSystem
  pub there : Contains systems system
  pub either : IsPairAt system p x y ⊎ IsPairAt system p y x

-- The pairs of an array as systems.
use Rattle.std.specs.Prelude.{◌≡◌, ◌↔◌, ◌⊎◌, ◌+◌, ◌≤◌, ◌++◌, ℕ, ℤ, List, length, map}
use Rattle.std.specs.List.{All, Contains}
use Rattle.affc_rows.specs.Forms.{Affine}
use Rattle.affc_system.specs.Boxes.{InBox}
use Rattle.affc_system.specs.Pairs.{WithinReach}
use Rattle.affc_system.specs.Systems.{IsPoint}
use Rattle.affc_system.specs.ElementPairs.{IsPairOf}
use Rattle.affc_system.specs.declared.pairs.PairSystem.{PairSystem}
use Rattle.affc_split.specs.declared.maximum.region.Region.{Region}
use Rattle.affc_ast.specs.declared.tree.Program.{Program}
use Rattle.affc_trace.specs.Laws.{IsInContext}
use Rattle.affc_nest.specs.declared.nest.Nest.{Nest}
use Rattle.affc_conflicts.specs.Conditions.{IsConflict}
use Rattle.affc_products.specs.Products.{choices, tallest}
use Rattle.affc_life.specs.declared.clash.ClashProduct.{ClashProduct}

-- The pairs of these systems are those of the array, throughout the context.
pub record HavePairs (program : Program) (pairs : ℕ → List ℤ → List ℤ → List ℤ → Type 0) (nest : Nest) (array : ℕ) (extents : List Affine) (systems : List PairSystem) : Type 0 where
  pub conflicts : All (IsConflict nest.context nest.params extents) systems
  pub same : (p : List ℤ) → IsInContext program p → (x y : List ℤ) → IsPairOf systems p x y ↔ pairs array p x y

-- a copy of a system with its pairs
pub record IsCopy (of system : PairSystem) : Type 0 where
  pub rows : system.system ≡ of.system
  pub ranges : system.ranges ≡ of.ranges
  pub x : system.x.items ≡ of.x.items
  pub y : system.y.items ≡ of.y.items

-- the system has no point in its box
abbrev pub IsVoid : PairSystem → Type 0
IsVoid s = (z : List ℤ) → InBox s.ranges z → IsPoint s.system z → ⊥

-- copies of all of these systems but some that have no point in their boxes
pub record AreKept (systems kept : List PairSystem) : Type 0 where
  pub copies : (system : PairSystem) → Contains kept system → (of : PairSystem) × Contains systems of × IsCopy of system
  pub all : (of : PairSystem) → Contains systems of → IsVoid of ⊎ ((system : PairSystem) × Contains kept system × IsCopy of system)

-- where those were kept of some systems, these are kept of them and of these more
abbrev pub Adds : (more old new : List PairSystem) → Type 0
Adds more old new = (systems : List PairSystem) → AreKept systems old → AreKept (systems ++ more) new

-- ---- Systems that are chosen

-- the region is over the columns and in the box of the system
pub record IsOver (base : PairSystem) (region : Region) : Type 0 where
  pub columns : region.system.columns ≡ base.system.columns
  pub ranges : region.ranges ≡ base.ranges

-- a system's pairs at the points of a region's rows
abbrev pub chosen_system : PairSystem → Region → PairSystem
chosen_system base region = record base { system = record base.system { rows = region.system.rows } }

-- a system's pairs at the points of these rows with each choice behind them
abbrev pub choices_behind : PairSystem → (rows : List Affine) → (factors : List (List (List Affine))) → List PairSystem
choices_behind base rows factors = map (λ more. record base { system = record base.system { rows = rows ++ more } }) (choices factors)

-- a box within reach, and room for the rows of each choice
pub record KeepsRoom (product : ClashProduct) : Type 0 where
  pub width : length product.base.ranges ≡ product.base.system.columns
  pub near : All WithinReach product.base.ranges
  pub room : length product.base.system.rows + tallest product.factors ≤ 1024

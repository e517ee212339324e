-- The ends of a column: rows that are projected from a system onto the columns up to it.
use Rattle.std.specs.Prelude.{◌≡◌, ℕ, suc, ◌<◌, ◌≤◌, List, [], ◌∷◌, ◌++◌, length, ℤ, pos, ◌<ℤ◌}
use Rattle.std.specs.List.{All}
use Rattle.affc_rows.specs.Forms.{Affine}
use Rattle.affc_system.specs.Systems.{Rows, Meets}
use Rattle.affc_farkas.specs.Multiples.{entry_of}
use Rattle.affc_farkas.specs.Eliminations.{IsTable}
use Rattle.affc_farkas.specs.declared.pair.Pair.{Pair}
use Rattle.affc_eliminate.specs.project.Projections.{ExtendsWhole, IsRowOfTable, AreFrom}

-- the row is, in least terms, one of the system or one that an elimination of later columns adds, and is 0 in each later column
pub record IsProjectedRow (system : Rows) (keep : ℕ) (row : Affine) : Type 0 where
  pub made : List Pair
  pub table : List (List ℕ)
  pub is_table : IsTable system.columns system.rows made table
  pub later : AreFrom keep made
  pub is_row : IsRowOfTable keep system.columns system.rows table row

-- the row bounds the column from below, or from above
abbrev pub BoundsBelow : (column : ℕ) → Affine → Type 0
BoundsBelow column row = pos 0 <ℤ entry_of row column

abbrev pub BoundsAbove : (column : ℕ) → Affine → Type 0
BoundsAbove column row = entry_of row column <ℤ pos 0

-- the ends of a column: where whole numbers before it extend to a rational point of the system, they do so with each whole number
-- that is not below the lower end and not above the upper one
pub record AreEnds (system : Rows) (column : ℕ) (lower upper : List Affine) : Type 0 where
  pub inside : column < system.columns
  pub projected_lower : All (IsProjectedRow system (suc column)) lower
  pub projected_upper : All (IsProjectedRow system (suc column)) upper
  pub below : All (BoundsBelow column) lower
  pub above : All (BoundsAbove column) upper
  pub few_lower : length lower ≤ 8
  pub few_upper : length upper ≤ 8
  pub extend : (before : List ℤ) (t : ℤ) → length before ≡ column → ExtendsWhole system.columns system.rows before
      → All (Meets (before ++ t ∷ [])) lower → All (Meets (before ++ t ∷ [])) upper → ExtendsWhole system.columns system.rows (before ++ t ∷ [])

-- the ends of one column after the other
abbrev pub AreEndsFrom : Rows → (column : ℕ) → List (List Affine × List Affine) → Type 0
AreEndsFrom system column [] = Unit {0}
AreEndsFrom system column (e ∷ es) = AreEnds system column e.0 e.1 × AreEndsFrom system (suc column) es

-- after these numbers each of the next ones lies between the ends of its column, which may look at all numbers before it
abbrev pub LieBetween : List (List Affine × List Affine) → (before ts : List ℤ) → Type 0
LieBetween es before [] = Unit {0}
LieBetween [] before (t ∷ ts) = ⊥
LieBetween (e ∷ es) before (t ∷ ts) = All (Meets (before ++ t ∷ [])) e.0 × All (Meets (before ++ t ∷ [])) e.1 × LieBetween es (before ++ t ∷ []) ts

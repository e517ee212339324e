-- The steps to the ends of a column.
use Rattle.std.specs.Prelude.{◌≡◌, ℕ, suc, ◌≤◌, Bool, true, false, List, [], ◌∷◌, ◌++◌, length, ℤ, pos}
use Rattle.std.specs.List.{All, Contains}
use Rattle.affc_rows.specs.Forms.{Affine}
use Rattle.affc_system.specs.Systems.{Rows, Meets}
use Rattle.affc_farkas.specs.Multiples.{entry_of}
use Rattle.affc_farkas.specs.Rational.{RationalPoint}
use Rattle.affc_farkas.specs.Eliminations.{IsElimination}
use Rattle.affc_eliminate.specs.project.Projections.{IsTooWide}
use Rattle.affc_loopends.specs.declared.bounds.Answer.{Answer}
use Rattle.affc_loopends.specs.declared.bounds.Answer.TheVariants.{Implied, Apart, Made, Wide}
use Rattle.affc_loopends.specs.declared.bounds.Stop.{Stop}
use Rattle.affc_loopends.specs.declared.bounds.Stop.TheVariants.{Memory, Loose}
use Rattle.affc_loopends.specs.Ends.{BoundsBelow, BoundsAbove}
use Rattle.affc_loopends.specs.Sizes.{IsModest}
use Rattle.affc_loopends.specs.Whys.{below_zero, question, IsWhy}

-- what elimination says of a row beside others over so many columns
abbrev pub IsAnswer : (columns : ℕ) → (others : List Affine) → (row : Affine) → Answer → Type 0
IsAnswer columns others row Implied = (whole : List ℤ) → length whole ≡ columns → All (Meets whole) others → Meets whole row
IsAnswer columns others row Apart = RationalPoint columns (others ++ below_zero row ∷ [])
IsAnswer columns others row (Made asked made) = (asked ≡ question columns others row) × IsElimination columns (others ++ below_zero row ∷ []) made.items × (length made.items ≡ 4096)
IsAnswer columns others row (Wide asked made next) = (asked ≡ question columns others row) × IsTooWide columns (others ++ below_zero row ∷ []) made.items next

-- why no ends are made
abbrev pub IsStop : Rows → (column : ℕ) → (ranges : List (ℤ × ℤ)) → Stop → Type 0
IsStop system column ranges Memory = Unit {0}
IsStop system column ranges (Loose why) = IsWhy system column ranges why

-- some of these rows, at most eight, which whole numbers meet exactly where they meet all of them
pub record AreEnough (columns : ℕ) (rows enough : List Affine) : Type 0 where
  pub few : length enough ≤ 8
  pub among : All (Contains rows) enough
  pub imply : (whole : List ℤ) → length whole ≡ columns → All (Meets whole) enough → All (Meets whole) rows

-- the row bounds this end of the column
abbrev pub BoundsEnd : Bool → (column : ℕ) → Affine → Type 0
BoundsEnd true column row = BoundsBelow column row
BoundsEnd false column row = BoundsAbove column row

-- of projected rows those that bound this end
pub record AreOfEnd (lower : Bool) (column : ℕ) (rows chosen : List Affine) : Type 0 where
  pub among : All (Contains rows) chosen
  pub each : All (BoundsEnd lower column) chosen
  pub all : All (λ r. BoundsEnd lower column r → Contains chosen r) rows

-- of projected rows some modest ones that don't look at the column, at most 100
pub record AreFlat (column : ℕ) (ranges : List (ℤ × ℤ)) (rows flat : List Affine) : Type 0 where
  pub few : length flat ≤ 100
  pub among : All (Contains rows) flat
  pub each : All (λ r. entry_of r column ≡ pos 0) flat
  pub modest : All (IsModest ranges) flat

-- some of the rows that are kept: whole numbers that meet those beside them meet them exactly where they meet all that are kept
pub record AreLeft (columns : ℕ) (beside kept left : List Affine) : Type 0 where
  pub few : length left ≤ length kept
  pub among : All (Contains kept) left
  pub imply : (whole : List ℤ) → length whole ≡ columns → All (Meets whole) beside → All (Meets whole) left → All (Meets whole) kept

-- of projected rows some modest ones that bound this end, at most eight
pub record IsEnd (lower : Bool) (column : ℕ) (ranges : List (ℤ × ℤ)) (rows chosen : List Affine) : Type 0 where
  pub few : length chosen ≤ 8
  pub among : All (Contains rows) chosen
  pub each : All (BoundsEnd lower column) chosen
  pub modest : All (IsModest ranges) chosen

-- enough rows of this end: whole numbers that meet the rows that don't look at the column meet all of this end where they meet these
pub record IsWholeEnd (lower : Bool) (column : ℕ) (ranges : List (ℤ × ℤ)) (rows enough : List Affine) : Type 0 where
  pub end : IsEnd lower column ranges rows enough
  pub imply : (whole : List ℤ) → length whole ≡ suc column → All (λ r. entry_of r column ≡ pos 0 → Meets whole r) rows → All (Meets whole) enough
      → All (λ r. BoundsEnd lower column r → Meets whole r) rows

-- enough rows of both ends: whole numbers that meet the rows that don't look at the column meet all that do where they meet these
pub record AreBothEnds (column : ℕ) (ranges : List (ℤ × ℤ)) (rows lower upper : List Affine) : Type 0 where
  pub low : IsEnd true column ranges rows lower
  pub high : IsEnd false column ranges rows upper
  pub imply : (whole : List ℤ) → length whole ≡ suc column → All (λ r. entry_of r column ≡ pos 0 → Meets whole r) rows → All (Meets whole) lower → All (Meets whole) upper
      → All (λ r. BoundsBelow column r → Meets whole r) rows × All (λ r. BoundsAbove column r → Meets whole r) rows

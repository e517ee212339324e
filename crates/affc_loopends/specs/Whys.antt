-- When a component has no ends, and what is answered.
use Rattle.std.specs.Prelude.{◌≡◌, ◌⊎◌, ℕ, suc, ◌<◌, List, [], ◌∷◌, ◌++◌, length, remove, slice_index_or, Option, Some, None, ℤ, negsuc}
use Rattle.std.specs.List.{All}
use Rattle.affc_rows.specs.Forms.{Affine}
use Rattle.affc_system.specs.Systems.{Rows}
use Rattle.affc_farkas.specs.Proofs.{low_row}
use Rattle.affc_farkas.specs.Rational.{RationalPoint}
use Rattle.affc_farkas.specs.Eliminations.{IsElimination}
use Rattle.affc_farkas.specs.declared.pair.Pair.{Pair}
use Rattle.affc_eliminate.specs.project.Projections.{IsTooWide, AreFrom}
use Rattle.affc_loopends.specs.declared.bounds.Bounds.{Bounds}
use Rattle.affc_loopends.specs.declared.bounds.Bounds.TheVariants.{Between, Loose}
use Rattle.affc_loopends.specs.declared.bounds.Why.{Why}
use Rattle.affc_loopends.specs.declared.bounds.Why.TheVariants.{Made, Wide, Large, Nine}
use Rattle.affc_loopends.specs.Ends.{IsProjectedRow, BoundsBelow, BoundsAbove, AreEnds}
use Rattle.affc_loopends.specs.Sizes.{IsModest, IsLarge}

-- ---- Rows of one end

-- -row - 1 >= 0: the row is at most -1
abbrev pub below_zero : Affine → Affine
below_zero row = low_row row (negsuc 0)

-- all bound the column from below, or all from above
abbrev pub BoundOneEnd : (column : ℕ) → List Affine → Type 0
BoundOneEnd column rows = All (BoundsBelow column) rows ⊎ All (BoundsAbove column) rows

-- projected rows that bound one end of the column
pub record AreOfOneEnd (system : Rows) (column : ℕ) (rows : List Affine) : Type 0 where
  pub projected : All (IsProjectedRow system (suc column)) rows
  pub one_end : BoundOneEnd column rows

-- the question whether the others imply a row: they hold, and the row is at most -1
abbrev pub question : (columns : ℕ) → (others : List Affine) → (row : Affine) → Rows
question columns others row = record { columns = columns; rows = others ++ below_zero row ∷ [] }

-- the system asks whether eight projected rows of one end imply a ninth
pub record IsQuestion (system : Rows) (column : ℕ) (asked : Rows) : Type 0 where
  pub others : List Affine
  pub row : Affine
  pub is : asked ≡ question (suc column) others row
  pub eight : length others ≡ 8
  pub of_one_end : AreOfOneEnd system column (others ++ row ∷ [])

-- for each row some rational point meets the others, and it is at most -1 there
abbrev pub NoneIsImplied : (columns : ℕ) → List Affine → Type 0
NoneIsImplied columns rows = (i : ℕ) (d : Affine) → i < length rows → RationalPoint columns (remove rows i ++ below_zero (slice_index_or rows i d) ∷ [])

-- ---- Why there are no ends

-- the pairs of the elimination: of a question, or of the system with only later columns cancelled
abbrev pub IsMade : Rows → (column : ℕ) → Option Rows → List Pair → Type 0
IsMade system column (Some asked) made = IsQuestion system column asked × IsElimination asked.columns asked.rows made × (length made ≡ 4096)
IsMade system column None made = IsElimination system.columns system.rows made × (length made ≡ 4096) × AreFrom (suc column) made

abbrev pub IsWide : Rows → (column : ℕ) → Option Rows → List Pair → Pair → Type 0
IsWide system column (Some asked) made next = IsQuestion system column asked × IsTooWide asked.columns asked.rows made next
IsWide system column None made next = IsTooWide system.columns system.rows made next × AreFrom (suc column) (made ++ next ∷ [])

abbrev pub IsWhy : Rows → (column : ℕ) → (ranges : List (ℤ × ℤ)) → Why → Type 0
IsWhy system column ranges (Made asked made) = IsMade system column asked made.items
IsWhy system column ranges (Wide asked made next) = IsWide system column asked made.items next
IsWhy system column ranges (Large row) = IsProjectedRow system (suc column) row × IsLarge ranges row
IsWhy system column ranges (Nine rows) = AreOfOneEnd system column rows.items × (length rows.items ≡ 9) × NoneIsImplied (suc column) rows.items

-- ---- Answers

-- the ends of a column, whose rows are modest over these ranges of the columns; or why there are none
abbrev pub IsBounds : Rows → (column : ℕ) → (ranges : List (ℤ × ℤ)) → Bounds → Type 0
IsBounds system column ranges (Between lower upper) = AreEnds system column lower.items upper.items × All (IsModest ranges) lower.items × All (IsModest ranges) upper.items
IsBounds system column ranges (Loose why) = IsWhy system column ranges why

-- of one column after the other
abbrev pub AreBoundsFrom : Rows → (column : ℕ) → (ranges : List (ℤ × ℤ)) → List Bounds → Type 0
AreBoundsFrom system column ranges [] = Unit {0}
AreBoundsFrom system column ranges (b ∷ bs) = IsBounds system column ranges b × AreBoundsFrom system (suc column) ranges bs

-- each has ends, and these are they
abbrev pub AreBetween : List Bounds → List (List Affine × List Affine) → Type 0
AreBetween [] [] = Unit {0}
AreBetween (Between lower upper ∷ bs) (e ∷ es) = (lower.items ≡ e.0) × (upper.items ≡ e.1) × AreBetween bs es
AreBetween _ _ = ⊥

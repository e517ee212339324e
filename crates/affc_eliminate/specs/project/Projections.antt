-- The projection of a system onto its first columns.
use Rattle.std.specs.Prelude.{◌≡◌, ◌⊎◌, ◌↔◌, ℕ, ◌<◌, ◌≤◌, List, [], ◌∷◌, ◌++◌, length, slice_index_or, ℤ, pos, ◌+ℤ◌, ◌*ℤ◌, unsigned_abs}
use Rattle.std.specs.List.{All}
use Prim.Native.Nat.{◌∣◌}
use Rattle.affc_rows.specs.Forms.{Affine}
use Rattle.affc_system.specs.Systems.{Meets}
use Rattle.affc_farkas.specs.Multiples.{entry_of}
use Rattle.affc_farkas.specs.Rational.{RationalPoint}
use Rattle.affc_farkas.specs.Eliminations.{combined, coefficient, AreFactors, IsTable, IsNext, IsElimination, IsWide}
use Rattle.affc_farkas.specs.declared.pair.Pair.{Pair}
use Rattle.affc_eliminate.specs.Mixtures.{PassesSigned}
use Rattle.affc_eliminate.specs.declared.project.projection.Projected.{Projected}
use Rattle.affc_eliminate.specs.declared.project.projection.Projected.TheVariants.{Rows, TooMany, TooWide}

-- the whole numbers are the first ones of a rational point that meets the rows
pub record ExtendsWhole (columns : ℕ) (rows : List Affine) (whole : List ℤ) : Type 0 where
  pub point : RationalPoint columns rows
  pub begins : (j : ℕ) → j < length whole → slice_index_or point.x j (pos 0) ≡ point.d *ℤ slice_index_or whole j (pos 0)

-- the row has these coefficients over the first columns and this constant, divided by their greatest common divisor
pub record IsInLeastTerms (keep : ℕ) (coefficients : ℕ → ℤ) (constant : ℤ) (row : Affine) : Type 0 where
  pub divisor : ℕ
  pub positive : 1 ≤ divisor
  pub width : length row.coefs ≡ keep
  pub coefs : (j : ℕ) → j < keep → coefficients j ≡ pos divisor *ℤ entry_of row j
  pub last : constant ≡ pos divisor *ℤ row.constant
  pub least : (k : ℕ) → ((j : ℕ) → j ≤ keep → k ∣ unsigned_abs (entry_of row j)) → k ≡ 1

-- the row is, in least terms, one of an elimination's rows, whose weights stand in the table: one that is 0 in each later column
pub record IsRowOfTable (keep columns : ℕ) (rows : List Affine) (table : List (List ℕ)) (row : Affine) : Type 0 where
  pub number : ℕ
  pub there : number < length table
  pub zeros : (j : ℕ) → keep ≤ j → j < columns → coefficient rows table number j ≡ pos 0
  pub terms : IsInLeastTerms keep (coefficient rows table number) (coefficient rows table number columns) row

-- rows of an elimination, which whole numbers meet exactly where they extend to a rational point of the system
pub record AreProjected (columns : ℕ) (rows : List Affine) (keep : ℕ) (made : List Pair) (projected : List Affine) : Type 0 where
  pub table : List (List ℕ)
  pub is_table : IsTable columns rows made table
  pub rows_of_table : All (IsRowOfTable keep columns rows table) projected
  pub same_points : (whole : List ℤ) → length whole ≡ keep → All (Meets whole) projected ↔ ExtendsWhole columns rows whole

-- in the row that cancels a column between two rows an entry is none of 128 bits before the division
pub record HasWideEntry (columns : ℕ) (rows : List Affine) (column : ℕ) (first second : List ℕ) : Type 0 where
  pub s : ℕ
  pub t : ℕ
  pub factors : AreFactors (unsigned_abs (combined rows first column)) (unsigned_abs (combined rows second column)) s t
  pub place : ℕ
  pub inside : place ≤ columns
  pub passes : PassesSigned ((pos s *ℤ combined rows first place) +ℤ (pos t *ℤ combined rows second place))

-- the pairs with this one after them are an elimination, in whose last row an entry or a weight is too great
pub record IsTooWide (columns : ℕ) (rows : List Affine) (made : List Pair) (next : Pair) : Type 0 where
  pub table : List (List ℕ)
  pub is_table : IsTable columns rows made table
  pub is_next : IsNext columns rows made table next
  pub wide : HasWideEntry columns rows next.column (slice_index_or table next.first []) (slice_index_or table next.second [])
      ⊎ IsWide rows next.column (slice_index_or table next.first []) (slice_index_or table next.second [])

-- only columns from this one on are cancelled
abbrev pub AreFrom : ℕ → List Pair → Type 0
AreFrom keep made = All (λ p. keep ≤ p.column) made

abbrev pub IsProjection : ℕ → List Affine → ℕ → Projected → Type 0
IsProjection columns rows keep (Rows projected made) = AreProjected columns rows keep made.items projected.items × AreFrom keep made.items
IsProjection columns rows keep (TooMany made) = IsElimination columns rows made.items × (length made.items ≡ 4096) × AreFrom keep made.items
IsProjection columns rows keep (TooWide made next) = IsTooWide columns rows made.items next × AreFrom keep (made.items ++ next ∷ [])

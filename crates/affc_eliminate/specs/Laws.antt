-- What holds of rows from which a column is eliminated (Fourier and Motzkin).
use Rattle.std.specs.Prelude.{◌≡◌, ◌⊎◌, ◌↔◌, ℕ, ◌<◌, ◌≤◌, List, ◌∷◌, length, ℤ, pos, ◌+ℤ◌, ◌*ℤ◌, ◌≤ℤ◌, ◌<ℤ◌, unsigned_abs}
use Rattle.std.specs.List.{All, Contains}
use Rattle.affc_rows.specs.Forms.{Affine}
use Rattle.affc_farkas.specs.Multiples.{entry_of}
use Rattle.affc_farkas.specs.Eliminations.{AreFactors}
use Rattle.affc_eliminate.specs.Points.{HoldAt, Implies, IsTrivial, Extends}
use Rattle.affc_rows.specs.Vocabulary.{opposite}

-- r is, up to a positive factor, the sum of positive multiples of f, which is positive in the column, and g, which is negative, and is 0 there
pub record IsCombination (column : ℕ) (f g r : Affine) : Type 0 where
  pub s : ℕ
  pub t : ℕ
  pub divisor : ℕ
  pub above : pos 0 <ℤ entry_of f column
  pub below : entry_of g column <ℤ pos 0
  pub factors : AreFactors (unsigned_abs (entry_of f column)) (unsigned_abs (entry_of g column)) s t
  pub positive : 1 ≤ divisor
  pub width : length r.coefs ≡ length f.coefs
  pub entries : (j : ℕ) → j ≤ length f.coefs → pos divisor *ℤ entry_of r j ≡ (pos s *ℤ entry_of f j) +ℤ (pos t *ℤ entry_of g j)

-- some row of the list is the combination of the two
abbrev pub IsCombined : ℕ → List Affine → Affine → Affine → Type 0
IsCombined column new f g = (r : Affine) × Contains new r × IsCombination column f g r

-- the row is one of these and 0 in the column, or the combination of two of them
abbrev pub IsFrom : ℕ → List Affine → Affine → Type 0
IsFrom column rows r = (Contains rows r × (entry_of r column ≡ pos 0)) ⊎ ((f : Affine) × (g : Affine) × Contains rows f × Contains rows g × IsCombination column f g r)

-- new rows without the column: those that are 0 in it, and combinations of two
pub record AreRowsOf (column width : ℕ) (rows new : List Affine) : Type 0 where
  pub widths : All (λ f. length f.coefs ≡ width) rows
  pub column_in : column < width
  pub from : All (IsFrom column rows) new
  pub flat : All (λ f. entry_of f column ≡ pos 0 → Contains new f) rows

-- ... of each positive and each negative row: a point of the other columns meets the new rows exactly where it extends to one of the old rows
abbrev pub StepIsExact : Type 0
StepIsExact = (column width : ℕ) (rows new : List Affine) (x : List ℤ) (d : ℤ) → AreRowsOf column width rows new
    → ((f g : Affine) → Contains rows f → Contains rows g → pos 0 <ℤ entry_of f column → entry_of g column <ℤ pos 0 → IsCombined column new f g)
    → length x ≡ width → pos 1 ≤ℤ d → HoldAt x d new ↔ Extends column x d rows

-- ... where a row and its opposite stand among the rows, of each other row with the one of the two that has the other sign
abbrev pub SubstitutionIsExact : Type 0
SubstitutionIsExact = (column width : ℕ) (rows new : List Affine) (p : Affine) (x : List ℤ) (d : ℤ) → AreRowsOf column width rows new
    → Contains rows p → Contains rows (opposite p) → pos 0 <ℤ entry_of p column
    → ((f : Affine) → Contains rows f → pos 0 <ℤ entry_of f column → f ≡ p ⊎ IsCombined column new f (opposite p))
    → ((g : Affine) → Contains rows g → entry_of g column <ℤ pos 0 → g ≡ opposite p ⊎ IsCombined column new p g)
    → length x ≡ width → pos 1 ≤ℤ d → HoldAt x d new ↔ Extends column x d rows

-- a row that another implies can be left out, and so can one that holds everywhere
abbrev pub ImpliedRowIsSpare : Type 0
ImpliedRowIsSpare = (f g : Affine) (rest : List Affine) (x : List ℤ) (d : ℤ) → Implies f g → Contains rest f → length x ≡ length f.coefs → pos 1 ≤ℤ d → HoldAt x d rest → HoldAt x d (g ∷ rest)

abbrev pub TrivialRowIsSpare : Type 0
TrivialRowIsSpare = (f : Affine) (rest : List Affine) (x : List ℤ) (d : ℤ) → IsTrivial f → pos 1 ≤ℤ d → HoldAt x d rest → HoldAt x d (f ∷ rest)

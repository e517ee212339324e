-- Rows with the multipliers by which they are sums of other rows, and the row that cancels a column between two of them.
use Rattle.std.specs.Prelude.{◌≡◌, ◌⊎◌, ◌==◌, if◌then◌else◌, ℕ, ◌+◌, ◌*◌, ◌^◌, ◌<◌, ◌≤◌, List, [], ◌∷◌, length, map, ℤ, pos, neg_ℤ, ◌+ℤ◌, ◌*ℤ◌, ◌≤ℤ◌, ◌<ℤ◌, unsigned_abs}
use Rattle.std.specs.List.{All}
use Prim.Native.Nat.{◌∣◌}
use Rattle.affc_rows.specs.Forms.{Affine, HaveColumns}
use Rattle.affc_farkas.specs.Multiples.{multiple_sum, entry_of}
use Rattle.affc_farkas.specs.Eliminations.{AreFactors}
use Rattle.affc_eliminate.specs.Laws.{IsCombination}
use Rattle.affc_eliminate.specs.declared.kept.Kept.{Kept}

-- the forms of the rows
abbrev pub forms_of : List Kept → List Affine
forms_of rows = map (λ k. k.row) rows

-- each row is the sum of the multiples of these base rows, of which there are at most 1,024, by its multipliers
pub record AreSumsOf (columns : ℕ) (base : List Affine) (rows : List Kept) : Type 0 where
  pub few : length base ≤ 1024
  pub widths : HaveColumns columns base
  pub sums : All (λ k. k.row ≡ multiple_sum columns base k.from) rows
  pub named : All (λ k. All (λ p. p.0 < 1024) k.from) rows

-- the multiplier of the base row with this number, 0 where it isn't named
abbrev pub weight_of : List (ℕ × ℕ) → ℕ → ℕ
weight_of [] i = 0
weight_of (p ∷ ps) i = (if p.0 == i then p.1 else 0) + weight_of ps i

-- s times its multiplier in the first list plus t times that in the second
abbrev pub mixed_weight : ℕ → List (ℕ × ℕ) → ℕ → List (ℕ × ℕ) → ℕ → ℕ
mixed_weight s first t second i = s * weight_of first i + t * weight_of second i

-- the greatest number that divides each of these
pub record IsGreatest (divisor : ℕ) (weights : ℕ → ℕ) : Type 0 where
  pub divides : (i : ℕ) → divisor ∣ weights i
  pub greatest : (k : ℕ) → ((i : ℕ) → k ∣ weights i) → k ∣ divisor

-- the new row is the combination of the first, which is positive in the column, and the second, which is negative; it is divided by the
-- greatest common divisor of its multipliers
pub record IsMixture (column : ℕ) (first second new : Kept) : Type 0 where
  pub rows : IsCombination column first.row second.row new.row
  pub greatest : IsGreatest rows.divisor (mixed_weight rows.s first.from rows.t second.from)
  pub weights : (i : ℕ) → rows.divisor * weight_of new.from i ≡ mixed_weight rows.s first.from rows.t second.from i

-- some multiplier is at least 2^127 before the division, or greater than 2^53 after it
abbrev pub WeightPasses : (ℕ → ℕ) → Type 0
WeightPasses weights =
    ((i : ℕ) × (2 ^ 127 ≤ weights i))
    ⊎ ((divisor i quotient : ℕ) × IsGreatest divisor weights × (weights i ≡ divisor * quotient) × (2 ^ 53 < quotient))

-- the number is none of 128 bits
abbrev pub PassesSigned : ℤ → Type 0
PassesSigned z = (z <ℤ neg_ℤ (pos (2 ^ 127))) ⊎ (pos (2 ^ 127) ≤ℤ z)

-- some entry of s f + t g passes i128
abbrev pub EntryPasses : ℕ → Affine → ℕ → Affine → Type 0
EntryPasses s f t g = (j : ℕ) × (j ≤ length f.coefs) × PassesSigned ((pos s *ℤ entry_of f j) +ℤ (pos t *ℤ entry_of g j))

-- in the row that cancels the column between the two a number is too great
pub record IsWide (column : ℕ) (first second : Kept) : Type 0 where
  pub s : ℕ
  pub t : ℕ
  pub factors : AreFactors (unsigned_abs (entry_of first.row column)) (unsigned_abs (entry_of second.row column)) s t
  pub passes : WeightPasses (mixed_weight s first.from t second.from) ⊎ EntryPasses s first.row t second.row

-- both rows are sums of the same base rows, and have the column
pub record AreOfOneBase (column : ℕ) (first second : Kept) : Type 0 where
  pub columns : ℕ
  pub column_in : column < columns
  pub base : List Affine
  pub sums : AreSumsOf columns base (first ∷ second ∷ [])

-- the row's entries, times the divisor, are those of s f + t g
pub record IsQuotient (divisor s : ℕ) (f : Affine) (t : ℕ) (g r : Affine) : Type 0 where
  pub width : length r.coefs ≡ length f.coefs
  pub entries : (j : ℕ) → j ≤ length f.coefs → pos divisor *ℤ entry_of r j ≡ (pos s *ℤ entry_of f j) +ℤ (pos t *ℤ entry_of g j)

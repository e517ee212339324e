-- The row that cancels a column between two sums of the same rows.
use Rattle.std.proofs.Common.{◌≡◌, ℕ, zero, suc, ◌<◌, ◌≤◌, List, [], ◌∷◌, length, to_z, of_z, ℤ, pos, negsuc, ◌+ℤ◌, ◌*ℤ◌, ◌<ℤ◌, sym, ap, subst, ◌∙◌, arith}
use Rattle.std.specs.Prelude.{unsigned_abs, FitsSigned}
use Rattle.std.specs.Int.{w128}
use Rattle.std.specs.List.{All}
use Rattle.std.proofs.lemmas.Int.{ints, to_z-of_z}
use Rattle.affc_rows.specs.Forms.{Affine}
use Rattle.affc_farkas.specs.Multiples.{multiple_sum, entry_of, row_at}
use Rattle.affc_farkas.specs.Eliminations.{AreFactors}
use Rattle.affc_farkas.proofs.Entries.{zeros-at}
use Rattle.affc_eliminate.specs.Mixtures.{AreOfOneBase, IsQuotient, IsMixture}
use Rattle.affc_eliminate.specs.Merges.{AreLeast}
use Rattle.affc_eliminate.specs.declared.kept.Kept.{Kept}
use Rattle.affc_eliminate.specs.declared.weights.Least.{Least}
use Rattle.affc_eliminate.proofs.Sums.{sum_width, sum_entry, total, total_linear}

in_first : 0 < 2
in_first = omega arith

in_second : 1 < 2
in_second = omega arith

pub first_sum : (column : ℕ) (f g : Kept) (h : AreOfOneBase column f g) → f.row ≡ multiple_sum h.columns h.base f.from
first_sum column f g h = h.sums.sums 0 f in_first

pub second_sum : (column : ℕ) (f g : Kept) (h : AreOfOneBase column f g) → g.row ≡ multiple_sum h.columns h.base g.from
second_sum column f g h = h.sums.sums 1 g in_second

pub first_named : (column : ℕ) (f g : Kept) → AreOfOneBase column f g → All (λ p. p.0 < 1024) f.from
first_named column f g h = h.sums.named 0 f in_first

pub second_named : (column : ℕ) (f g : Kept) → AreOfOneBase column f g → All (λ p. p.0 < 1024) g.from
second_named column f g h = h.sums.named 1 g in_second

pub first_width : (column : ℕ) (f g : Kept) (h : AreOfOneBase column f g) → length f.row.coefs ≡ h.columns
first_width column f g h = ap (λ (r : Affine). length r.coefs) (first_sum column f g h) ∙ sum_width h.columns h.base f.from h.sums.widths

pub second_width : (column : ℕ) (f g : Kept) (h : AreOfOneBase column f g) → length g.row.coefs ≡ h.columns
second_width column f g h = ap (λ (r : Affine). length r.coefs) (second_sum column f g h) ∙ sum_width h.columns h.base g.from h.sums.widths

pub same_width : (column : ℕ) (f g : Kept) → AreOfOneBase column f g → length f.row.coefs ≡ length g.row.coefs
same_width column f g h = first_width column f g h ∙ sym (second_width column f g h)

under : (a b c : ℕ) → a < b → c ≡ b → a ≤ c
under a b c h e = omega arith

pub column_in_first : (column : ℕ) (f g : Kept) → AreOfOneBase column f g → column ≤ length f.row.coefs
column_in_first column f g h = under column h.columns (length f.row.coefs) h.column_in (first_width column f g h)

pub column_in_second : (column : ℕ) (f g : Kept) → AreOfOneBase column f g → column ≤ length g.row.coefs
column_in_second column f g h = under column h.columns (length g.row.coefs) h.column_in (second_width column f g h)

pub abs_up : (z : ℤ) → pos 0 <ℤ z → 1 ≤ unsigned_abs z
abs_up (pos zero) h = absurd (omega (arith, ints))
abs_up (pos (suc n)) h = omega arith
abs_up (negsuc n) h = absurd (omega (arith, ints))

pub abs_down : (z : ℤ) → z <ℤ pos 0 → 1 ≤ unsigned_abs z
abs_down (pos n) h = absurd (omega (arith, ints))
abs_down (negsuc n) h = omega arith

-- a sum that isn't 0 everywhere has multipliers
no_zero_up : (z : ℤ) → z ≡ pos 0 → pos 0 <ℤ z → ⊥
no_zero_up z e h = absurd (omega (arith, ints))

some_of_sum : (columns : ℕ) (base : List Affine) (by : List (ℕ × ℕ)) (column : ℕ) → pos 0 <ℤ entry_of (multiple_sum columns base by) column → 1 ≤ length by
some_of_sum columns base [] column h = absurd (no_zero_up (entry_of (multiple_sum columns base []) column) (zeros-at columns column) h)
some_of_sum columns base (p ∷ ps) column h = omega arith

pub some_multiplier : (column : ℕ) (f g : Kept) → AreOfOneBase column f g → pos 0 <ℤ entry_of f.row column → 1 ≤ length f.from
some_multiplier column f g h up = some_of_sum h.columns h.base f.from column (subst (λ (r : Affine). pos 0 <ℤ entry_of r column) (first_sum column f g h) up)

-- the entries of the sum have the divisor
pub divisor_divides : (column : ℕ) (f g : Kept) (s t : ℕ) (least : Least) → AreOfOneBase column f g → AreLeast s f.from t g.from least → (j : ℕ) → j ≤ length f.row.coefs
    → (q : ℤ) × (pos least.divisor *ℤ q ≡ (pos s *ℤ entry_of f.row j) +ℤ (pos t *ℤ entry_of g.row j))
divisor_divides column f g s t least h l j le' =
    let le : j ≤ h.columns = subst (λ n. j ≤ n) (first_width column f g h) le' in
    let e : ℕ → ℤ = λ n. entry_of (row_at h.columns h.base n) j in (
      total least.from e,
      total_linear 1024 least.divisor s t least.from f.from g.from e l.named (first_named column f g h) (second_named column f g h) l.weights
          ∙ ap (λ z. (pos s *ℤ z) +ℤ (pos t *ℤ total g.from e)) (sym (ap (λ (r : Affine). entry_of r j) (first_sum column f g h) ∙ sum_entry h.columns h.base f.from j h.sums.widths le))
          ∙ ap (λ z. (pos s *ℤ entry_of f.row j) +ℤ (pos t *ℤ z)) (sym (ap (λ (r : Affine). entry_of r j) (second_sum column f g h) ∙ sum_entry h.columns h.base g.from j h.sums.widths le)),
    )

pub is_mixture : (column : ℕ) (f g : Kept) (s t : ℕ) (least : Least) (row : Affine) (number : ℕ) → pos 0 <ℤ entry_of f.row column → entry_of g.row column <ℤ pos 0
    → AreFactors (unsigned_abs (entry_of f.row column)) (unsigned_abs (entry_of g.row column)) s t → AreLeast s f.from t g.from least → IsQuotient least.divisor s f.row t g.row row
    → IsMixture column f g (record { row = row; from = least.from; number = number })
is_mixture column f g s t least row number up down factors l q = record {
  rows = record { s = s; t = t; divisor = least.divisor; above = up; below = down; factors = factors; positive = l.positive; width = q.width; entries = q.entries };
  greatest = l.greatest;
  weights = l.weights;
}

pub factors_of : (a b s t : ℕ) (x y : ℤ) → a ≡ unsigned_abs x → b ≡ unsigned_abs y → AreFactors a b s t → AreFactors (unsigned_abs x) (unsigned_abs y) s t
factors_of a b s t x y ea eb h = subst (λ m. AreFactors m (unsigned_abs y) s t) ea (subst (λ m. AreFactors a m s t) eb h)

-- a magnitude as the code finds it
pub magnitude_of : (m : ℕ) (a x : ℤ) → FitsSigned w128 a → m ≡ unsigned_abs (to_z w128 (of_z w128 a)) → a ≡ x → m ≡ unsigned_abs x
magnitude_of m a x fits e h = e ∙ ap unsigned_abs (to_z-of_z w128 a fits ∙ h)

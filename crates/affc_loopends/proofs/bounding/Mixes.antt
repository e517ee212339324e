-- The row that cancels a column between two rows exists.
use Rattle.std.proofs.Common.{◌≡◌, ℕ, ◌*◌, ◌<◌, ◌≤◌, List, length, map, ℤ, pos, ◌+ℤ◌, ◌*ℤ◌, ◌<ℤ◌, sym, ap, subst, ◌∙◌, arith}
use Rattle.std.specs.Prelude.{unsigned_abs}
use Rattle.std.proofs.lemmas.Int.{ints}
use Rattle.std.proofs.lemmas.List.{length-map}
use lib.IntN.{*ℤ-zero}
use Rattle.affc_rows.specs.Forms.{Affine}
use Rattle.affc_farkas.specs.Multiples.{entry_of}
use Rattle.affc_farkas.specs.Eliminations.{combined, mixed_weights, AreFactors, IsAdded}
use Rattle.affc_farkas.proofs.Weights.{some_mixed, some_weight, length-mixed_weights}
use Rattle.affc_eliminate.specs.Laws.{IsCombination}
use Rattle.affc_eliminate.proofs.Exactness.{factor_of_zero, combination_flat}
use Rattle.affc_eliminate.proofs.Mixtures.{abs_up, abs_down}
use Rattle.affc_loopends.proofs.bounding.Divisors.{factors, divided}
use Rattle.affc_loopends.proofs.bounding.Sums.{sum_of, sum_wide, sum_entry, combined_mixed, combined_multiplied}
use Rattle.affc_loopends.proofs.bounding.Numbers.{le_from_lt}

-- the row with the last weights is the combination of the rows with the first two
abbrev pub IsMixed : (columns : ℕ) → List Affine → (column : ℕ) → (f g w : List ℕ) → Type 0
IsMixed columns rows column f g w = IsCombination column (sum_of columns rows f) (sum_of columns rows g) (sum_of columns rows w)

-- weights of the row that cancels the column between the two
pub record HasMixture (columns : ℕ) (rows : List Affine) (column : ℕ) (f g : List ℕ) : Type 0 where
  pub weights : List ℕ
  pub added : IsAdded rows column f g weights
  pub mixed : IsMixed columns rows column f g weights
  pub long : length weights ≡ length rows

same_sum : (s t a b c d : ℤ) → a ≡ c → b ≡ d → (s *ℤ a) +ℤ (t *ℤ b) ≡ (s *ℤ c) +ℤ (t *ℤ d)
same_sum s t a b c d e f = ap (λ z. (s *ℤ z) +ℤ (t *ℤ b)) e ∙ ap (λ z. (s *ℤ c) +ℤ (t *ℤ z)) f

pub mixture : (columns : ℕ) (rows : List Affine) (column : ℕ) (f g : List ℕ) → column ≤ columns → length f ≡ length rows → length g ≡ length rows
    → pos 0 <ℤ combined rows f column → combined rows g column <ℤ pos 0 → HasMixture columns rows column f g
mixture columns rows column f g le lf lg up down =
    let a = combined rows f column in
    let b = combined rows g column in
    let h = factors (unsigned_abs a) (unsigned_abs b) (abs_up a up) (abs_down b down) in
    let d = divided (mixed_weights h.s f h.t g) (some_mixed h.s f h.t g (lf ∙ sym lg) h.some (some_weight f (map (λ row. entry_of row column) rows) up)) in
    let w = d.0 in
    let ef = sum_entry columns rows f column le in
    let eg = sum_entry columns rows g column le in
    record {
      weights = w;
      added = record { s = h.s; t = h.t; factors = h.are; divided = d.1 };
      mixed = record {
        s = h.s;
        t = h.t;
        divisor = d.1.divisor;
        above = subst (λ z. pos 0 <ℤ z) (sym ef) up;
        below = subst (λ z. z <ℤ pos 0) (sym eg) down;
        factors = subst (λ z. AreFactors (unsigned_abs z) (unsigned_abs (entry_of (sum_of columns rows g) column)) h.s h.t) (sym ef) (subst (λ z. AreFactors (unsigned_abs a) (unsigned_abs z) h.s h.t) (sym eg) h.are);
        positive = d.1.positive;
        width = sum_wide columns rows w ∙ sym (sum_wide columns rows f);
        entries = λ j jl.
            let inside : j ≤ columns = subst (λ n. j ≤ n) (sum_wide columns rows f) jl in
            ap (λ z. pos d.1.divisor *ℤ z) (sum_entry columns rows w j inside) ∙ sym (combined_multiplied rows d.1.divisor w j) ∙ ap (λ ws. combined rows ws j) d.1.quotients
            ∙ combined_mixed rows h.s f h.t g j lf lg
            ∙ same_sum (pos h.s) (pos h.t) (combined rows f j) (combined rows g j) (entry_of (sum_of columns rows f) j) (entry_of (sum_of columns rows g) j) (sym (sum_entry columns rows f j inside)) (sym (sum_entry columns rows g j inside));
      };
      long = sym (length-map w (λ n. d.1.divisor * n)) ∙ ap length d.1.quotients ∙ length-mixed_weights h.s f h.t g (lf ∙ sym lg) ∙ lf;
    }

-- ---- Where it is 0

two_nothings : (s t : ℤ) → (s *ℤ pos 0) +ℤ (t *ℤ pos 0) ≡ pos 0
two_nothings s t = omega (arith, ints, *ℤ-zero s, *ℤ-zero t)

pub mixed_flat : (columns : ℕ) (rows : List Affine) (column : ℕ) (f g w : List ℕ) → column < columns → IsMixed columns rows column f g w → combined rows w column ≡ pos 0
mixed_flat columns rows column f g w lt h =
    let le = le_from_lt column columns lt in
    sym (sum_entry columns rows w column le)
    ∙ combination_flat column (sum_of columns rows f) (sum_of columns rows g) (sum_of columns rows w) (subst (λ n. column ≤ n) (sym (sum_wide columns rows f)) le) h

pub mixed_zero : (columns : ℕ) (rows : List Affine) (column : ℕ) (f g w : List ℕ) (j : ℕ) → j ≤ columns → IsMixed columns rows column f g w → combined rows f j ≡ pos 0 → combined rows g j ≡ pos 0 → combined rows w j ≡ pos 0
mixed_zero columns rows column f g w j le h ef eg =
    let F = entry_of (sum_of columns rows f) j in
    let G = entry_of (sum_of columns rows g) j in
    sym (sum_entry columns rows w j le)
    ∙ factor_of_zero h.divisor (entry_of (sum_of columns rows w) j) h.positive
    (h.entries j (subst (λ n. j ≤ n) (sym (sum_wide columns rows f)) le)
    ∙ same_sum (pos h.s) (pos h.t) F G (pos 0) (pos 0) (sum_entry columns rows f j le ∙ ef) (sum_entry columns rows g j le ∙ eg) ∙ two_nothings (pos h.s) (pos h.t))

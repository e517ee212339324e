-- The leaves of trees that the search gives: how many rows and divisions they have, and their entries.
use Rattle.std.proofs.Common.{◌≡◌, ℕ, suc, ◌+◌, ◌^◌, ◌≤◌, ℤ, pos, ◌≤ℤ◌, [], ◌∷◌, length, replicate, Some, refl, sym, ap, subst, ◌∙◌, inl, inr, arith}
use Rattle.std.specs.Prelude.{max, unsigned_abs}
use Rattle.std.specs.List.{All}
use Rattle.std.proofs.lemmas.Int.{ints}
use Rattle.std.proofs.lemmas.List.Elements.{All-nil, All-cons, All-append}
use Rattle.std.proofs.lemmas.Option.{same_Some}
use Rattle.affc_rows.specs.Forms.{Affine}
use Rattle.affc_rows.proofs.SizeLemmas.{number_within, widened_within}
use Rattle.affc_system.specs.Systems.{FitsRow}
use Rattle.affc_system.proofs.SystemLemmas.{row_of}
use Rattle.affc_trace.specs.Law.{IsIn}
use Rattle.affc_trace.proofs.Members.{in_map}
use Rattle.affc_trace.proofs.Once.{in_append}
use Rattle.affc_trace.proofs.Runs.{length_append}
use Rattle.affc_nest.specs.Domains.{number_form, gap_row}
use Rattle.affc_nest.specs.Questions.{widened}
use Rattle.affc_order.specs.Posed.{Posed}
use Rattle.affc_nest.specs.Divisions.{multiple, division_rows}
use Rattle.affc_quast.specs.Leaves.{Leaf, negated, behind, divided, leaves_of}
use Rattle.affc_quast.specs.Limits.{Shaped, FitsForm, FitsTree, narrow}
use Rattle.affc_quast.specs.Trees.{Tree, Test, Div, Source, Input, depth_of, divisions_of}
use Rattle.affc_life.proofs.LightLemmas.{form_within}
use Rattle.affc_life.proofs.MildLemmas.{IsMild, gap_mild, narrow_mild}

-- ---- Rows

form_fits : (f : Affine) → FitsForm narrow f → FitsRow f
form_fits f h = (row_of (length f.coefs) (2 ^ 20) (2 ^ 40) f (omega arith) (omega arith) (form_within narrow (length f.coefs) f refl h)).fits

form_mild : (n : ℕ) (f : Affine) → length f.coefs ≡ n → FitsForm narrow f → IsMild n f
form_mild n f w h = narrow_mild n f (form_within narrow n f w h)

negated_fits : (f : Affine) → FitsForm narrow f → FitsRow (negated f)
negated_fits f h =
    let n = length f.coefs in
    gap_mild n f (number_form n (pos 0)) 1 (form_mild n f refl h) (number_within n (2 ^ 39) (2 ^ 58) (pos 0) (omega arith)) (omega arith)

-- a divisor
near : (z : ℤ) → pos 1 ≤ℤ z → z ≤ℤ pos (2 ^ 20) → unsigned_abs z ≤ 2 ^ 20
near z h g = omega (arith, ints, h, g)

multiple_mild : (n : ℕ) (by constant : ℤ) → unsigned_abs by ≤ 2 ^ 20 → unsigned_abs constant ≤ 2 ^ 20 → IsMild (n + 1) (multiple n by constant)
multiple_mild n by constant h g =
    let z = number_within n (2 ^ 39) (2 ^ 58) (pos 0) (omega arith) in
    record {
      width = length_append (replicate n (pos 0)) (by ∷ []) ∙ ap (λ k. k + 1) z.width;
      coefs_fit = All-append (λ c. unsigned_abs c ≤ 2 ^ 39) (replicate n (pos 0)) (by ∷ []) z.coefs_fit (All-cons (λ c. unsigned_abs c ≤ 2 ^ 39) by [] (coef (unsigned_abs by) h) (All-nil (λ c. unsigned_abs c ≤ 2 ^ 39)));
      constant_fits = most (unsigned_abs constant) g;
    }
  where
    coef : (n : ℕ) → n ≤ 2 ^ 20 → n ≤ 2 ^ 39
    coef n h = omega (arith, h)

    most : (n : ℕ) → n ≤ 2 ^ 20 → n ≤ 2 ^ 58
    most n h = omega (arith, h)

division_fits : (n : ℕ) (f : Affine) (by : ℤ) → length f.coefs ≡ n → FitsForm narrow f → unsigned_abs by ≤ 2 ^ 20 → All FitsRow (division_rows n f by)
division_fits n f by w h g =
    let m = widened_within n 1 (2 ^ 39) (2 ^ 58) f (form_mild n f w h) in
    All-cons FitsRow (gap_row (multiple n by (pos 0)) (widened 1 f) 0) (gap_row (widened 1 f) (multiple n by by) 1 ∷ []) (gap_mild (n + 1) (multiple n by (pos 0)) (widened 1 f) 0 (multiple_mild n by (pos 0) g (omega arith)) m (omega arith))
    (All-cons FitsRow (gap_row (widened 1 f) (multiple n by by) 1) [] (gap_mild (n + 1) (widened 1 f) (multiple n by by) 1 m (multiple_mild n by by g g) (omega arith)) (All-nil FitsRow))

-- ---- Leaves

pub record IsSmall (depth divisions : ℕ) (l : Leaf) : Type 0 where
  pub rows_few : length l.rows ≤ depth + divisions
  pub rows_fit : All FitsRow l.rows
  pub divisions_few : length l.divisions ≤ divisions
  pub named : (a : Posed) → l.named ≡ Some a → All (FitsForm narrow) a.iterators

-- behind a test
behind_small : (d e n m : ℕ) (row : Affine) (l : Leaf) → FitsRow row → suc d ≤ e → n ≤ m → IsSmall d n l → IsSmall e m (behind (row ∷ []) l)
behind_small d e n m row l fits h g s = record {
  rows_few = sum (length l.rows) s.rows_few;
  rows_fit = All-cons FitsRow row l.rows fits s.rows_fit;
  divisions_few = through (length l.divisions) s.divisions_few;
  named = s.named;
}
  where
    sum : (r : ℕ) → r ≤ d + n → suc r ≤ e + m
    sum r i = omega (arith, h, g, i)

    through : (k : ℕ) → k ≤ n → k ≤ m
    through k i = omega (arith, g, i)

-- behind a division
divided_small : (d n columns : ℕ) (f : Affine) (by : ℤ) (l : Leaf) → length f.coefs ≡ columns → FitsForm narrow f → unsigned_abs by ≤ 2 ^ 20 → IsSmall d n l → IsSmall (suc d) (suc n) (divided columns f by l)
divided_small d n columns f by l width fits h s = record {
  rows_few = sum (length l.rows) s.rows_few;
  rows_fit = All-append FitsRow (division_rows columns f by) l.rows (division_fits columns f by width fits h) s.rows_fit;
  divisions_few = one (length l.divisions) s.divisions_few;
  named = s.named;
}
  where
    sum : (r : ℕ) → r ≤ d + n → suc (suc r) ≤ suc d + suc n
    sum r i = omega (arith, i)

    one : (k : ℕ) → k ≤ n → suc k ≤ suc n
    one k i = omega (arith, i)

left : (a b : ℕ) → a ≤ max a b
left a b = grind arith

right : (a b : ℕ) → b ≤ max a b
right a b = grind arith

first_deeper : (a b : ℕ) → suc a ≤ suc (max a b)
first_deeper a b = grind arith

second_deeper : (a b : ℕ) → suc b ≤ suc (max a b)
second_deeper a b = grind arith

pub leaf_small : (columns : ℕ) (tree : Tree) → Shaped columns tree → FitsTree narrow tree → (l : Leaf) → IsIn l (leaves_of columns tree) → IsSmall (depth_of tree) (divisions_of tree) l
leaf_small columns (Test f on off) h g l i = elim (in_append _ _ l i) [
  | inl j ↦ (let r = in_map (behind (f ∷ [])) (leaves_of columns on) l j in
      subst (IsSmall (depth_of (Test f on off)) (divisions_of (Test f on off))) (sym r.2)
      (behind_small (depth_of on) (depth_of (Test f on off)) (divisions_of on) (divisions_of (Test f on off)) f r.0 (form_fits f g.0) (first_deeper (depth_of on) (depth_of off)) (left (divisions_of on) (divisions_of off))
      (leaf_small columns on h.1 g.1 r.0 r.1)))
  | inr j ↦ (let r = in_map (behind (negated f ∷ [])) (leaves_of columns off) l j in
      subst (IsSmall (depth_of (Test f on off)) (divisions_of (Test f on off))) (sym r.2)
      (behind_small (depth_of off) (depth_of (Test f on off)) (divisions_of off) (divisions_of (Test f on off)) (negated f) r.0 (negated_fits f g.0)
      (second_deeper (depth_of on) (depth_of off)) (right (divisions_of on) (divisions_of off)) (leaf_small columns off h.2 g.2 r.0 r.1)))
]
leaf_small columns (Div f by rest) h g l i =
    let r = in_map (divided columns f by) (leaves_of (suc columns) rest) l i in
    subst (IsSmall (suc (depth_of rest)) (suc (divisions_of rest))) (sym r.2)
    (divided_small (depth_of rest) (divisions_of rest) columns f by r.0 h.0 g.0 (near by h.1 g.1) (leaf_small (suc columns) rest h.2 g.2 r.0 r.1))
leaf_small columns (Source s forms) h g l (inl e) =
    subst (IsSmall 0 0) (sym e) (record {
      rows_few = omega arith;
      rows_fit = All-nil FitsRow;
      divisions_few = omega arith;
      named = λ a q. subst (λ (b : Posed). All (FitsForm narrow) b.iterators) (same_Some (record { part = s; iterators = forms }) a q) g;
    })
leaf_small columns (Source s forms) h g l (inr i) = absurd i
leaf_small columns Input h g l (inl e) = subst (IsSmall 0 0) (sym e) (record { rows_few = omega arith; rows_fit = All-nil FitsRow; divisions_few = omega arith; named = λ a q. absurd (cc) })
leaf_small columns Input h g l (inr i) = absurd i

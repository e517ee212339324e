-- Rational points: integer points are some, and a leaf refutes them.
use Rattle.std.proofs.Common.{◌≡◌, ℕ, zero, suc, ◌<◌, List, [], ◌∷◌, length, ℤ, pos, negsuc, ◌+ℤ◌, ◌*ℤ◌, ◌≤ℤ◌, ◌<ℤ◌, sym, subst, ◌∙◌, arith}
use Rattle.std.proofs.lemmas.Int.{ints}
use Rattle.std.proofs.lemmas.List.Elements.{All-head, All-tail, All-weaker}
use Rattle.std.specs.List.{All}
use lib.IntN.{*ℤ-zero}
use Rattle.affc_rows.specs.Forms.{Affine, dot}
use Rattle.affc_rows.proofs.IntLemmas.{one-mul}
use Rattle.affc_system.specs.Systems.{Rows, IsRow, IsPoint, Meets}
use Rattle.affc_farkas.specs.Multiples.{zero_row, row_at, multiple_sum}
use Rattle.affc_farkas.specs.Proofs.{IsLeaf}
use Rattle.affc_farkas.specs.Rational.{scaled_value, RationalPoint}
use Rattle.affc_farkas.proofs.Between.{nonneg_product}
use Rattle.affc_farkas.proofs.Points.{scaled_value-mixed}
use Rattle.affc_farkas.proofs.Sound.{multiple_sum-width, dot-cancelled, dot-zeros}

pub integer_point : (system : Rows) (x : List ℤ) → IsPoint system x → RationalPoint system.columns system.rows
integer_point system x p = record {
  x = x;
  d = pos 1;
  width = p.width;
  divisor = omega (arith, ints);
  meets = All-weaker (Meets x) (λ row. pos 0 ≤ℤ scaled_value row x (pos 1)) (λ row h. subst (λ k. pos 0 ≤ℤ (dot row.coefs x +ℤ k)) (sym (one-mul row.constant)) h) system.rows p.meets;
}

nothing : (a b : ℤ) → a ≡ pos 0 → b ≡ pos 0 → pos 0 ≤ℤ (a +ℤ b)
nothing a b e f = omega (arith, ints)

both : (w a b r : ℤ) → w ≡ a +ℤ b → pos 0 ≤ℤ a → b ≡ r → pos 0 ≤ℤ r → pos 0 ≤ℤ w
both w a b r e m o h = omega (arith, ints)

nonneg : (n : ℕ) → pos 0 ≤ℤ pos n
nonneg n = omega (arith, ints)

-- the sum of multiples of rows that are at least 0 at a rational point is at least 0 there
scaled_sum : (columns : ℕ) (rows : List Affine) (x : List ℤ) (d : ℤ) (by : List (ℕ × ℕ)) → length x ≡ columns → All (IsRow columns) rows
    → All (λ row. pos 0 ≤ℤ scaled_value row x d) rows → All (λ p. p.0 < length rows) by → pos 0 ≤ℤ scaled_value (multiple_sum columns rows by) x d
scaled_sum columns rows x d [] l fit meets there = nothing _ _ (dot-zeros columns x) (*ℤ-zero d)
scaled_sum columns rows x d (p ∷ ps) l fit meets there =
    let here = All-head (λ q. q.0 < length rows) p ps there in
    let there' = All-tail (λ q. q.0 < length rows) p ps there in
    let w = (fit p.0 (zero_row columns) here).width in
    let u = multiple_sum-width columns rows ps fit there' in
    let v = scaled_value-mixed (pos p.1) (row_at columns rows p.0) (pos 1) (multiple_sum columns rows ps) x d (w ∙ sym u) (w ∙ sym l) in
    both _ _ _ _ v (nonneg_product (pos p.1) (scaled_value (row_at columns rows p.0) x d) (nonneg p.1) (meets p.0 (zero_row columns) here))
    (one-mul (scaled_value (multiple_sum columns rows ps) x d)) (scaled_sum columns rows x d ps l fit meets there')

below_zero : (d k : ℤ) → pos 1 ≤ℤ d → k <ℤ pos 0 → (d *ℤ k) <ℤ pos 0
below_zero (negsuc n) k h l = absurd (omega (arith, ints))
below_zero (pos zero) k h l = absurd (omega (arith, ints))
below_zero (pos (suc n)) (pos m) h l = absurd (omega (arith, ints))
below_zero (pos (suc n)) (negsuc m) h l = omega (arith, ints)

leaf_absurd : (a b : ℤ) → a ≡ pos 0 → b <ℤ pos 0 → pos 0 ≤ℤ (a +ℤ b) → ⊥
leaf_absurd a b e n h = omega (arith, ints)

pub leaf_refutes : (columns : ℕ) (rows : List Affine) (by : List (ℕ × ℕ)) → All (IsRow columns) rows → IsLeaf columns rows by → RationalPoint columns rows → ⊥
leaf_refutes columns rows by fit leaf p =
    let w = multiple_sum-width columns rows by fit leaf.there in
    let e = dot-cancelled (multiple_sum columns rows by) p.x (λ j k. leaf.cancels j (omega arith)) in
    leaf_absurd _ _ e (below_zero p.d (multiple_sum columns rows by).constant p.divisor leaf.negative) (scaled_sum columns rows p.x p.d by p.width fit p.meets leaf.there)

-- What elimination can't refute.
use Rattle.std.proofs.Common.{◌≡◌, inl, inr, ℕ, List, [], ◌∷◌, length, ℤ, pos, negsuc, ◌+ℤ◌, ◌*ℤ◌, ◌≤ℤ◌, refl, arith}
use Rattle.std.proofs.lemmas.Int.{ints}
use Rattle.std.proofs.lemmas.List.Elements.{All-cons, All-nil}
use Rattle.affc_rows.specs.Forms.{Affine}
use Rattle.affc_farkas.specs.Eliminations.{IsTable, none, more}
use Rattle.affc_farkas.specs.Rational.{scaled_value}
use Rattle.affc_farkas.specs.declared.pair.Pair.{Pair}
use Rattle.affc_leaf.specs.Examples.{contradiction, ContradictionIsNotHard, HalfIsHard}

below_zero : (d : ℤ) → pos 1 ≤ℤ d → pos 0 ≤ℤ (pos 0 +ℤ (d *ℤ negsuc 0)) → ⊥
below_zero d h k = omega (arith, ints)

-- where there is no column there is no pair
no_pair : (rows : List Affine) {made : List Pair} {table : List (List ℕ)} → IsTable 0 rows made table → length made ≡ 0
no_pair rows none = refl
no_pair rows (more made table p weights t next added) = absurd (omega (arith, next.column_there))

pub contradiction_is_not_hard : ContradictionIsNotHard
contradiction_is_not_hard (inl point) = below_zero point.d point.divisor (point.meets 0 (record { coefs = []; constant = pos 0 }) (omega arith))
contradiction_is_not_hard (inr (inl (made, (elimination, long)))) = let none = no_pair contradiction.rows elimination.is_table in omega (arith, none, long)
contradiction_is_not_hard (inr (inr (made, (next, wide)))) = omega (arith, wide.is_next.column_there)

low : pos 0 ≤ℤ (((pos 2 *ℤ pos 1) +ℤ pos 0) +ℤ (pos 2 *ℤ negsuc 0))
low = omega (arith, ints)

high : pos 0 ≤ℤ (((negsuc 1 *ℤ pos 1) +ℤ pos 0) +ℤ (pos 2 *ℤ pos 1))
high = omega (arith, ints)

pub half_is_hard : HalfIsHard
half_is_hard =
    let P : Affine → Type 0 = λ row. pos 0 ≤ℤ scaled_value row (pos 1 ∷ []) (pos 2) in
    let first : Affine = record { coefs = pos 2 ∷ []; constant = negsuc 0 } in
    let second : Affine = record { coefs = negsuc 1 ∷ []; constant = pos 1 } in
    inl (record {
      x = pos 1 ∷ [];
      d = pos 2;
      width = refl;
      divisor = omega (arith, ints);
      meets = All-cons P first (second ∷ []) low (All-cons P second [] high (All-nil P));
    })

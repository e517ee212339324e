-- The examples.
use Rattle.std.proofs.Common.{◌≡◌, ◌⊎◌, ℕ, zero, suc, ◌<◌, ◌≤◌, [], ◌∷◌, length, ℤ, pos, negsuc, ◌+ℤ◌, ◌*ℤ◌, ◌≤ℤ◌, ◌<ℤ◌, refl, inl, inr, arith}
use Rattle.std.specs.List.{All, Contains}
use Rattle.std.proofs.lemmas.Int.{ints}
use Rattle.std.proofs.lemmas.List.Elements.{All-nil, All-cons, All-contains}
use Rattle.std.proofs.lemmas.Nat.Gcd.{dvd_refl}
use Rattle.affc_rows.specs.Forms.{Affine}
use Rattle.affc_farkas.specs.Multiples.{entry_of}
use Rattle.affc_farkas.specs.Rational.{scaled_value}
use Rattle.affc_farkas.specs.Eliminations.{AreFactors}
use Rattle.affc_eliminate.specs.Points.{HoldAt}
use Rattle.affc_eliminate.specs.Laws.{IsCombination, IsCombined, IsFrom, AreRowsOf}
use Rattle.affc_eliminate.specs.Examples.{plane, given, without_x, TwoRowsAreLeft, FiveHalvesExtend, TenDoesNotExtend, TrivialRows, SameSlopes, OppositeOfRow}
use Rattle.affc_eliminate.proofs.Exactness.{substitution_is_exact}

one_one : AreFactors 1 1 1 1
one_one = record { divisor = 1; greatest = (dvd_refl 1, dvd_refl 1, λ d h k. h); first = refl; second = refl }

low_entries : (j : ℕ) → j ≤ 2
    → pos 1 *ℤ entry_of (plane (pos 0) (pos 1) (negsuc 1)) j ≡ (pos 1 *ℤ entry_of (plane (pos 1) (pos 0) (negsuc 1)) j) +ℤ (pos 1 *ℤ entry_of (plane (negsuc 0) (pos 1) (pos 0)) j)
low_entries zero h = refl
low_entries (suc zero) h = refl
low_entries (suc (suc zero)) h = refl
low_entries (suc (suc (suc j))) h = absurd (omega arith)

high_entries : (j : ℕ) → j ≤ 2
    → pos 1 *ℤ entry_of (plane (pos 0) (negsuc 0) (pos 9)) j ≡ (pos 1 *ℤ entry_of (plane (pos 1) (negsuc 0) (pos 0)) j) +ℤ (pos 1 *ℤ entry_of (plane (negsuc 0) (pos 0) (pos 9)) j)
high_entries zero h = refl
high_entries (suc zero) h = refl
high_entries (suc (suc zero)) h = refl
high_entries (suc (suc (suc j))) h = absurd (omega arith)

-- y - 2 from x - 2 and y - x
low : IsCombination 0 (plane (pos 1) (pos 0) (negsuc 1)) (plane (negsuc 0) (pos 1) (pos 0)) (plane (pos 0) (pos 1) (negsuc 1))
low = record {
  s = 1;
  t = 1;
  divisor = 1;
  above = omega (arith, ints);
  below = omega (arith, ints);
  factors = one_one;
  positive = omega arith;
  width = refl;
  entries = low_entries;
}

-- 9 - y from x - y and 9 - x
high : IsCombination 0 (plane (pos 1) (negsuc 0) (pos 0)) (plane (negsuc 0) (pos 0) (pos 9)) (plane (pos 0) (negsuc 0) (pos 9))
high = record {
  s = 1;
  t = 1;
  divisor = 1;
  above = omega (arith, ints);
  below = omega (arith, ints);
  factors = one_one;
  positive = omega arith;
  width = refl;
  entries = high_entries;
}

not_above : (n : ℕ) → pos 0 <ℤ negsuc n → ⊥
not_above n h = absurd (omega (arith, ints))

not_below : (n : ℕ) → pos n <ℤ pos 0 → ⊥
not_below n h = absurd (omega (arith, ints))

not_zero : (n : ℕ) → pos (suc n) ≡ pos 0 → ⊥
not_zero n e = absurd (omega (arith, ints))

not_zero' : (n : ℕ) → negsuc n ≡ pos 0 → ⊥
not_zero' n e = absurd (omega (arith, ints))

each_given : (P : Affine → Type 0) → P (plane (pos 1) (negsuc 0) (pos 0)) → P (plane (negsuc 0) (pos 1) (pos 0)) → P (plane (pos 1) (pos 0) (negsuc 1)) → P (plane (negsuc 0) (pos 0) (pos 9)) → All P given
each_given P a b c d = All-cons P (plane (pos 1) (negsuc 0) (pos 0)) (plane (negsuc 0) (pos 1) (pos 0) ∷ plane (pos 1) (pos 0) (negsuc 1) ∷ plane (negsuc 0) (pos 0) (pos 9) ∷ []) a
    (All-cons P (plane (negsuc 0) (pos 1) (pos 0)) (plane (pos 1) (pos 0) (negsuc 1) ∷ plane (negsuc 0) (pos 0) (pos 9) ∷ []) b
    (All-cons P (plane (pos 1) (pos 0) (negsuc 1)) (plane (negsuc 0) (pos 0) (pos 9) ∷ []) c
    (All-cons P (plane (negsuc 0) (pos 0) (pos 9)) [] d (All-nil P))))

each_left : (P : Affine → Type 0) → P (plane (pos 0) (pos 1) (negsuc 1)) → P (plane (pos 0) (negsuc 0) (pos 9)) → All P without_x
each_left P a b = All-cons P (plane (pos 0) (pos 1) (negsuc 1)) (plane (pos 0) (negsuc 0) (pos 9) ∷ []) a (All-cons P (plane (pos 0) (negsuc 0) (pos 9)) [] b (All-nil P))

lt02 : 0 < 2
lt02 = omega arith

lt12 : 1 < 2
lt12 = omega arith

lt04 : 0 < 4
lt04 = omega arith

lt14 : 1 < 4
lt14 = omega arith

lt24 : 2 < 4
lt24 = omega arith

lt34 : 3 < 4
lt34 = omega arith

not_low : pos 0 ≤ℤ negsuc 0 → ⊥
not_low h = absurd (omega (arith, ints))

not_less : negsuc 1 ≤ℤ negsuc 2 → ⊥
not_less h = absurd (omega (arith, ints))

not_two : (pos 1 ∷ pos 0 ∷ []) ≡ (pos 2 ∷ pos 0 ∷ []) → ⊥
not_two e = cc

rows_of : AreRowsOf 0 2 given without_x
rows_of = record {
  widths = each_given (λ f. length f.coefs ≡ 2) refl refl refl refl;
  column_in = omega arith;
  from = each_left (IsFrom 0 given)
      (inr (plane (pos 1) (pos 0) (negsuc 1), plane (negsuc 0) (pos 1) (pos 0), (2, lt24, refl), (1, lt14, refl), low))
      (inr (plane (pos 1) (negsuc 0) (pos 0), plane (negsuc 0) (pos 0) (pos 9), (0, lt04, refl), (3, lt34, refl), high));
  flat = each_given (λ f. entry_of f 0 ≡ pos 0 → Contains without_x f) (λ e. absurd (not_zero 0 e)) (λ e. absurd (not_zero' 0 e)) (λ e. absurd (not_zero 0 e)) (λ e. absurd (not_zero' 0 e));
}

pub two_rows_are_left : TwoRowsAreLeft
two_rows_are_left x d l one =
    let p = plane (pos 1) (negsuc 0) (pos 0) in
    let n = plane (negsuc 0) (pos 1) (pos 0) in
    let A = λ (f : Affine). pos 0 <ℤ entry_of f 0 → (f ≡ p) ⊎ IsCombined 0 without_x f n in
    let B = λ (g : Affine). entry_of g 0 <ℤ pos 0 → (g ≡ n) ⊎ IsCombined 0 without_x p g in
    let above : All A given = each_given A (λ _. inl refl) (λ h. absurd (not_above 0 h)) (λ _. inr (plane (pos 0) (pos 1) (negsuc 1), (0, lt02, refl), low)) (λ h. absurd (not_above 0 h)) in
    let below : All B given = each_given B (λ h. absurd (not_below 1 h)) (λ _. inl refl) (λ h. absurd (not_below 1 h)) (λ _. inr (plane (pos 0) (negsuc 0) (pos 9), (1, lt12, refl), high)) in
    substitution_is_exact 0 2 given without_x p x d rows_of (0, lt04, refl) (1, lt14, refl) (omega (arith, ints))
    (λ f c h. All-contains A given f above c h) (λ g c h. All-contains B given g below c h) l one

pub five_halves_extend : FiveHalvesExtend
five_halves_extend = record {
  s = pos 1;
  y = pos 5;
  divisor = omega (arith, ints);
  holds = each_given (λ f. pos 0 ≤ℤ scaled_value f (pos 5 ∷ pos 5 ∷ []) (pos 2)) (omega (arith, ints)) (omega (arith, ints)) (omega (arith, ints)) (omega (arith, ints));
}

second_left : HoldAt (pos 0 ∷ pos 10 ∷ []) (pos 1) without_x → pos 0 ≤ℤ negsuc 0
second_left h = h 1 (plane (pos 0) (pos 0) (pos 0)) lt12

pub ten_does_not_extend : TenDoesNotExtend
ten_does_not_extend e =
    let h = second_left ((two_rows_are_left (pos 0 ∷ pos 10 ∷ []) (pos 1) refl (omega (arith, ints))).1 e) in
    absurd (omega (arith, ints))

zeros : (c : ℤ) (j : ℕ) → j < 2 → entry_of (plane (pos 0) (pos 0) c) j ≡ pos 0
zeros c zero h = refl
zeros c (suc zero) h = refl
zeros c (suc (suc j)) h = absurd (omega arith)

pub trivial_rows : TrivialRows
trivial_rows = ((zeros (pos 0), omega (arith, ints)), (zeros (pos 7), omega (arith, ints)), (λ t. not_low t.1), (λ t. not_zero 0 (t.0 1 lt12)))

pub same_slopes : SameSlopes
same_slopes = ((refl, omega (arith, ints)), (refl, omega (arith, ints)), (λ h. not_less h.1), (λ h. not_two h.0))

pub opposite_of_row : OppositeOfRow
opposite_of_row = refl

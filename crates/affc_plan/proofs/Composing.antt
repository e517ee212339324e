-- Slight forms with slight images don't pass 2^126.
use Rattle.std.proofs.Common.{◌≡◌, ℕ, zero, suc, ◌*◌, ◌^◌, ◌≤◌, ℤ, pos, true, ◌&&◌, List, [], ◌∷◌, ◌++◌, length, get_or, refl, arith, inl, inr, lit≤}
use Rattle.std.specs.Prelude.{unsigned_abs, nat_le, nat_abs}
use Rattle.std.proofs.lemmas.Nat.{mul-le}
use Rattle.std.proofs.lemmas.Bool.{and_parts, and_from}
use Rattle.affc_rows.specs.Forms.{Affine, dot_magnitude, column_of, constants_of, columns_of, composed_magnitudes, composed_form_magnitudes, TooWide}
use Rattle.affc_trace.specs.Inverses.{zeros, unit_row, columns_from}
use Rattle.affc_trace.specs.Target.{are_slight, all_slight}
use Rattle.affc_plan.specs.Operands.{is_slight}
use Rattle.affc_plan.proofs.OperandLaws.{slight_entry, slight_sides}

abbrev Bounded : List ℤ → Type 0
Bounded [] = Unit {0}
Bounded (x ∷ xs) = (unsigned_abs x ≤ 2 ^ 30) × Bounded xs

first_slight : (f : Affine) (fs : List Affine) → all_slight (f ∷ fs) ≡ true → (unsigned_abs f.constant ≤ 2 ^ 30) × (are_slight f.coefs ≡ true) × (all_slight fs ≡ true)
first_slight f fs h =
    let a = and_parts (nat_le (nat_abs f.constant) (2 ^ 30) && are_slight f.coefs) (all_slight fs) h in
    let b = and_parts (nat_le (nat_abs f.constant) (2 ^ 30)) (are_slight f.coefs) a.0 in
    (slight_entry f.constant (2 ^ 30) b.0, b.1, a.1)

entry_slight : (cs : List ℤ) (j : ℕ) → are_slight cs ≡ true → unsigned_abs (get_or cs j (pos 0)) ≤ 2 ^ 30
entry_slight [] j h = lit≤ tt
entry_slight (c ∷ cs) zero h = let a : unsigned_abs c ≤ 256 = slight_entry c 256 (and_parts (nat_le (nat_abs c) 256) (are_slight cs) h).0 in omega arith
entry_slight (c ∷ cs) (suc j) h = entry_slight cs j (and_parts (nat_le (nat_abs c) 256) (are_slight cs) h).1

constants_bounded : (fs : List Affine) → all_slight fs ≡ true → Bounded (constants_of fs)
constants_bounded [] h = tt
constants_bounded (f ∷ fs) h = let a = first_slight f fs h in (a.0, constants_bounded fs a.2)

column_bounded : (j : ℕ) (fs : List Affine) → all_slight fs ≡ true → Bounded (column_of j fs)
column_bounded j [] h = tt
column_bounded j (f ∷ fs) h = let a = first_slight f fs h in (entry_slight f.coefs j a.1, column_bounded j fs a.2)

dot_bounded : (cs xs : List ℤ) → are_slight cs ≡ true → Bounded xs → dot_magnitude cs xs ≤ length cs * 2 ^ 38
dot_bounded [] xs h k = omega arith
dot_bounded (c ∷ cs) [] h k = omega arith
dot_bounded (c ∷ cs) (x ∷ xs) h k =
    let a = and_parts (nat_le (nat_abs c) 256) (are_slight cs) h in
    let b : unsigned_abs c ≤ 256 = slight_entry c 256 a.0 in
    let p : unsigned_abs c * unsigned_abs x ≤ 256 * 2 ^ 30 = mul-le (unsigned_abs c) (unsigned_abs x) 256 (2 ^ 30) b k.0 in
    let q : dot_magnitude cs xs ≤ length cs * 2 ^ 38 = dot_bounded cs xs a.1 k.1 in
    omega arith

pub slight_fits : (f : Affine) (images : List Affine) → length f.coefs ≤ 32 → is_slight f ≡ true → all_slight images ≡ true → TooWide (composed_form_magnitudes f images) → ⊥
slight_fits f images few h k (inl w) =
    let s = slight_sides f h in
    let d = dot_bounded f.coefs (constants_of images) s.1 (constants_bounded images k) in
    let c : unsigned_abs f.constant ≤ 2 ^ 30 = s.0 in
    omega arith
slight_fits f images few h k (inr w) = none 0 (columns_of images) w
  where
    none : (j n : ℕ) → TooWide (composed_magnitudes f.coefs images j n) → ⊥
    none j zero v = v
    none j (suc n) (inl v) =
        let d = dot_bounded f.coefs (column_of j images) (slight_sides f h).1 (column_bounded j images k) in
        omega arith
    none j (suc n) (inr v) = none (suc j) n v

-- ---- Images are slight

zeros_slight : (n : ℕ) → are_slight (zeros n) ≡ true
zeros_slight zero = refl
zeros_slight (suc n) = zeros_slight n

unit_slight : (n j : ℕ) → are_slight (unit_row n j) ≡ true
unit_slight zero j = refl
unit_slight (suc n) zero = zeros_slight n
unit_slight (suc n) (suc j) = unit_slight n j

pub images_slight : (n j m : ℕ) (fs : List Affine) → all_slight fs ≡ true → all_slight (columns_from n j m ++ fs) ≡ true
images_slight n j zero fs h = h
images_slight n j (suc m) fs h = and_from (are_slight (unit_row n j)) (all_slight (columns_from n (suc j) m ++ fs)) (unit_slight n j) (images_slight n (suc j) m fs h)

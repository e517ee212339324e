-- Distances along a row.
use Rattle.std.proofs.Common.{◌≡◌, ℕ, ◌≤◌, List, [], ◌∷◌, length, ℤ, pos, ◌+ℤ◌, ◌-ℤ◌, ◌*ℤ◌, neg_ℤ, ◌≤ℤ◌, refl, ap, arith}
use Rattle.std.specs.Prelude.{unsigned_abs}
use Rattle.std.proofs.lemmas.Int.{ints}
use Rattle.affc_rows.specs.Forms.{Affine, dot, value, values_of}
use Rattle.affc_conflicts.specs.differences.Differences.{apart}
use Rattle.affc_basis.specs.Slices.{minus}
use Rattle.affc_conflicts.proofs.Turned.{times_turned, both_turned}

pub apart-dot : (cs : List ℤ) (xs ys : List Affine) (z : List ℤ) → length xs ≡ length cs → length ys ≡ length cs → apart cs xs ys z ≡ dot cs (minus (values_of xs z) (values_of ys z))
apart-dot [] xs ys z h k = refl
apart-dot (c ∷ cs) [] ys z h k = absurd (omega arith)
apart-dot (c ∷ cs) (x ∷ xs) [] z h k = absurd (omega arith)
apart-dot (c ∷ cs) (x ∷ xs) (y ∷ ys) z h k = ap (λ v. (c *ℤ (value x z -ℤ value y z)) +ℤ v) (apart-dot cs xs ys z (omega arith) (omega arith))

pub apart-turned : (cs : List ℤ) (xs ys : List Affine) (z : List ℤ) → apart cs ys xs z ≡ neg_ℤ (apart cs xs ys z)
apart-turned [] xs ys z = refl
apart-turned (c ∷ cs) [] [] z = refl
apart-turned (c ∷ cs) [] (y ∷ ys) z = refl
apart-turned (c ∷ cs) (x ∷ xs) [] z = refl
apart-turned (c ∷ cs) (x ∷ xs) (y ∷ ys) z = both_turned _ _ _ _ (times_turned c (value x z) (value y z)) (apart-turned cs xs ys z)

-- a number whose two signs are at most n
pub within_both : (a b : ℤ) (n : ℕ) → b ≡ neg_ℤ a → a ≤ℤ pos n → b ≤ℤ pos n → unsigned_abs a ≤ n
within_both a b n h k l = omega (arith, ints)

pub size_of : (a : ℤ) (n : ℕ) → a ≡ pos n → unsigned_abs a ≡ n
size_of a n h = omega (arith, ints)

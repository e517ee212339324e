-- Greatest common divisors exist.
use Rattle.std.proofs.Common.{◌≡◌, ℕ, zero, suc, ◌%◌, ◌≤◌, List, [], ◌∷◌, refl, arith}
use Prim.Native.Nat.{◌∣◌}
use Rattle.std.specs.List.{All}
use Rattle.std.specs.Int.{IsGcd}
use Rattle.std.proofs.lemmas.List.Elements.{All-nil, All-cons, All-head, All-tail, All-weaker}
use Rattle.std.proofs.lemmas.Nat.Gcd.{IsGcd-from_zero, IsGcd-from_mod, dvd_trans, dvd-zero}
use Rattle.affc_loopends.proofs.bounding.Numbers.{le_itself}

no_more : (b : ℕ) → b ≤ 0 → b ≡ 0
no_more b h = omega arith

remainder : (a b n : ℕ) → suc b ≤ suc n → a % suc b ≤ n
remainder a b n h = omega arith

-- Euclid's remainders fall
within : (n a b : ℕ) → b ≤ n → (g : ℕ) × IsGcd a b g
within zero a b le = (a, IsGcd-from_zero a b (no_more b le))
within (suc n) a zero le = (a, IsGcd-from_zero a 0 refl)
within (suc n) a (suc b) le =
    let r = within n (suc b) (a % suc b) (remainder a b n le) in
    (r.0, IsGcd-from_mod a (suc b) r.0 r.1)

pub gcd_of : (a b : ℕ) → (g : ℕ) × IsGcd a b g
gcd_of a b = within b a b (le_itself b)

-- the number divides each of these, and each number that divides them all divides it
abbrev pub IsGcdOf : List ℕ → ℕ → Type 0
IsGcdOf ns g = All (λ n. g ∣ n) ns × ((k : ℕ) → All (λ n. k ∣ n) ns → k ∣ g)

pub gcd_of_all : (ns : List ℕ) → (g : ℕ) × IsGcdOf ns g
gcd_of_all [] = (0, (All-nil (λ n. 0 ∣ n), λ k h. dvd-zero k))
gcd_of_all (n ∷ ns) =
    let r = gcd_of_all ns in
    let g = gcd_of n r.0 in
    let all : All (λ m. g.0 ∣ m) (n ∷ ns) = All-cons (λ m. g.0 ∣ m) n ns g.1.0 (All-weaker (λ m. r.0 ∣ m) (λ m. g.0 ∣ m) (λ m d. dvd_trans g.0 g.1.1 d) ns r.1.0) in
    (g.0, (all, λ k h. g.1.2 k (All-head (λ m. k ∣ m) n ns h) (r.1.1 k (All-tail (λ m. k ∣ m) n ns h))))

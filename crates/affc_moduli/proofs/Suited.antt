-- The tests of a proposed modulus.
use Rattle.std.proofs.Common.{Result, Ok, Err, Bool, ◌≡◌, ℕ, List, length, take, ℤ, pos, ◌≤ℤ◌, ◌<ℤ◌, sym, ap, subst, ◌∙◌, arith}
use Rattle.std.specs.Prelude.{IfOk, IsTrue}
use Rattle.std.proofs.lemmas.Int.{ints}
use Rattle.std.proofs.lemmas.List.{take_all}
use Rattle.affc_rows.specs.Forms.{Affine, value}
use Rattle.affc_split.specs.maximum.Regions.{InRegion, IsBounded}
use Rattle.affc_split.specs.declared.maximum.region.Region.{Region}
use Rattle.affc_basis.specs.Moduli.{IsModulus}
use Rattle.affc_moduli.specs.Enough.{IsBelow, AreBelow, AreComparable, IsSuitable}
use Rattle.affc_moduli.proofs.Rows.{number, value_of_number}

above_nothing : (v w : ℤ) → v ≡ pos 0 → v <ℤ w → pos 1 ≤ℤ w
above_nothing v w e h = omega (arith, ints)

-- the form that is 0 everywhere is below it
pub above_zero : (region : Region) (f modulus : Affine) (n : ℕ) → f ≡ number n 0 → IsModulus region.system.columns modulus → IsBelow region f modulus → (p : List ℤ) → InRegion region p → pos 1 ≤ℤ value modulus p
above_zero region f modulus n e limits below p here =
    let v : value f p ≡ pos 0 = ap (λ (g : Affine). value g p) e ∙ value_of_number n 0 p in
    let width : length modulus.coefs ≡ length p = limits.width ∙ sym here.meets.width in
    let same : take (length modulus.coefs) p ≡ p = ap (λ (m : ℕ). take m p) width ∙ take_all (length p) p (omega arith) in
    above_nothing (value f p) (value modulus p) v (subst (λ (q : List ℤ). value f p <ℤ value modulus q) same (below p here))

pub all_above_zero : {E : Type 0} (region : Region) (f modulus : Affine) (n : ℕ) (r : Result Bool E) → f ≡ number n 0 → IsModulus region.system.columns modulus → IfOk r (λ b. IsTrue b → IsBelow region f modulus)
    → IfOk r (λ b. IsTrue b → (p : List ℤ) → InRegion region p → pos 1 ≤ℤ value modulus p)
all_above_zero region f modulus n (Ok b) e limits below = λ yes. above_zero region f modulus n e limits (below yes)
all_above_zero region f modulus n (Err x) e limits below = tt

pub comparable_by : (n : ℕ) (regions : List Region) (fs : List Affine) (m : Affine) → IsModulus n m → AreComparable n regions fs → AreComparable (length m.coefs) regions fs
comparable_by n regions fs m limits h = subst (λ (q : ℕ). AreComparable q regions fs) (sym limits.width) h

pub suited : {E : Type 0} (context : Region) (regions : List Region) (fs gs : List Affine) (m : Affine) (need : ℤ) (r : Result Bool E) → IsModulus context.system.columns m
    → ((p : List ℤ) → InRegion context p → pos 1 ≤ℤ value m p) → IsBounded context m need → AreBelow regions fs m
    → IfOk r (λ b. IsTrue b → AreBelow regions gs m) → IfOk r (λ b. IsTrue b → IsSuitable context regions fs gs m need)
suited context regions fs gs m need (Ok b) limits positive most low h = λ yes. record { limits = limits; positive = positive; most = most; forward = low; backward = h yes }
suited context regions fs gs m need (Err x) limits positive most low h = tt

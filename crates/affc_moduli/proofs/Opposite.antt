-- A form at a point where a row that is parallel to it is at least 0.
use Rattle.std.proofs.Common.{◌≡◌, ℕ, List, [], ◌∷◌, ℤ, pos, neg_ℤ, ◌+ℤ◌, ◌*ℤ◌, ◌≤ℤ◌, ◌<ℤ◌, Option, Some, None, is_some, IsTrue, refl, ap, ◌∙◌, arith}
use Rattle.std.specs.Prelude.{IfSome}
use Rattle.std.specs.List.{All}
use Rattle.std.proofs.lemmas.Int.{ints}
use Rattle.affc_rows.specs.Forms.{Affine, dot, value}
use Rattle.affc_rows.proofs.IntLemmas.{neg-mul}
use Rattle.affc_system.specs.Systems.{Meets}
use Rattle.affc_rows.specs.Vocabulary.{AreOpposite}
use Rattle.affc_conflicts.proofs.Decided.{all_at}
use Rattle.affc_conflicts.proofs.Turned.{both_turned}
use Rattle.affc_moduli.specs.Barred.{IsBarredAt}

other_sign : (x y : ℤ) → x +ℤ y ≡ pos 0 → x ≡ neg_ℤ y
other_sign x y e = omega (arith, ints)

dot-opposite : (xs ys z : List ℤ) → AreOpposite xs ys → dot xs z ≡ neg_ℤ (dot ys z)
dot-opposite [] [] z h = refl
dot-opposite [] (y ∷ ys) z h = absurd h
dot-opposite (x ∷ xs) [] z h = absurd h
dot-opposite (x ∷ xs) (y ∷ ys) [] h = refl
dot-opposite (x ∷ xs) (y ∷ ys) (v ∷ vs) h =
    both_turned (x *ℤ v) (y *ℤ v) (dot xs vs) (dot ys vs) (ap (λ u. u *ℤ v) (other_sign x y h.0) ∙ neg-mul y v) (dot-opposite xs ys vs h.1)

at_most : (r f c d : ℤ) → r ≡ neg_ℤ f → pos 0 ≤ℤ (r +ℤ c) → (f +ℤ d) ≤ℤ (c +ℤ d)
at_most r f c d e h = omega (arith, ints)

-- the form is at most the sum of the constants
pub by_opposite : (row form : Affine) (z : List ℤ) → AreOpposite row.coefs form.coefs → Meets z row → value form z ≤ℤ (row.constant +ℤ form.constant)
by_opposite row form z opposite meets = at_most (dot row.coefs z) (dot form.coefs z) row.constant form.constant (dot-opposite row.coefs form.coefs z opposite) meets

-- a number below 0 that is at least 0
pub not_negative : (v n : ℤ) → v ≤ℤ n → n <ℤ pos 0 → pos 0 ≤ℤ v → ⊥
not_negative v n h k l = omega (arith, ints)

-- two parallel rows, of which not both are at least 0
pub barred : (row form : Affine) (z : List ℤ) → AreOpposite row.coefs form.coefs → (row.constant +ℤ form.constant) <ℤ pos 0 → Meets z row → Meets z form → ⊥
barred row form z opposite low meets holds = not_negative (value form z) (row.constant +ℤ form.constant) (by_opposite row form z opposite meets) low holds

-- so is a row with which one of the rows is, where a place is told
pub barred_at : (rows : List Affine) (row : Affine) (place : Option ℕ) (z : List ℤ) → IfSome place (λ i. IsBarredAt rows row i) → IsTrue (is_some place) → All (Meets z) rows → Meets z row → ⊥
barred_at rows row None z at some meets holds = absurd (cc)
barred_at rows row (Some i) z b some meets holds = barred b.other row z b.opposite b.low (all_at (Meets z) rows meets i b.other b.there) holds

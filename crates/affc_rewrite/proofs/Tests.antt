-- What the tests of forms say of their values.
use Rattle.std.proofs.Common.{◌≡◌, ℕ, ◌<◌, ℤ, pos, negsuc, ◌+ℤ◌, ◌≤ℤ◌, ◌<ℤ◌, true, List, length, get_or, refl, ap, ◌∙◌, arith}
use Rattle.std.specs.Int.{int_rem_euclid}
use Rattle.std.specs.Ordering.{int_eq}
use Rattle.std.specs.Cmp.Lexicographic.{pointwise}
use Rattle.std.proofs.lemmas.Bool.Decides.{Decides-int_eq}
use Rattle.std.proofs.lemmas.Int.{ints}
use Rattle.std.proofs.lemmas.Slice.Eq.{slice_eq-Decides}
use Rattle.std.proofs.Math.Nat.{mod-eq_of_lt}
use Rattle.affc_rows.specs.Forms.{Affine, dot, value}
use Rattle.affc_domain.proofs.FormLemmas.{column_value, number_value}
use Rattle.affc_domain.proofs.Lists.{both_true}
use Rattle.affc_nest.specs.Domains.{column_form, number_form}
use Rattle.affc_basis.proofs.Remainders.{divided}
use Rattle.affc_rewrite.specs.Rewrite.{same_form, is_one, is_unit}

pub same_value : (f g : Affine) (xs : List ℤ) → same_form f g ≡ true → value f xs ≡ value g xs
same_value f g xs h =
    let b = both_true (int_eq f.constant g.constant) (pointwise int_eq f.coefs g.coefs) h in
    let coefs : f.coefs ≡ g.coefs = (slice_eq-Decides Decides-int_eq f.coefs g.coefs (pointwise int_eq f.coefs g.coefs) refl).0 b.1 in
    ap (λ cs. dot cs xs +ℤ f.constant) coefs ∙ ap (λ z. dot g.coefs xs +ℤ z) ((Decides-int_eq f.constant g.constant).0 b.0)

pub one_value : (f : Affine) (xs : List ℤ) → is_one f ≡ true → value f xs ≡ pos 1
one_value f xs h = same_value f (number_form (length f.coefs) (pos 1)) xs h ∙ number_value (length f.coefs) (pos 1) xs

pub unit_value : (k : ℕ) (row : Affine) (xs : List ℤ) → length row.coefs ≡ length xs → is_unit k row ≡ true → value row xs ≡ get_or xs k (pos 0)
unit_value k row xs l h = same_value row (column_form (length row.coefs) k) xs h ∙ ap (λ n. value (column_form n k) xs) l ∙ column_value xs k

-- ---- Remainders

-- by 1
pub no_remainder : (z d : ℤ) → d ≡ pos 1 → int_rem_euclid z d ≡ pos 0
no_remainder z d e = ap (int_rem_euclid z) e ∙ (let r = divided z (pos 1) (omega (arith, ints)) in small (int_rem_euclid z (pos 1)) r.low r.high)
  where
    small : (r : ℤ) → pos 0 ≤ℤ r → r <ℤ pos 1 → r ≡ pos 0
    small r a b = omega (arith, ints)

-- of what is less
pub own_remainder : (x d : ℤ) → pos 0 ≤ℤ x → x <ℤ d → int_rem_euclid x d ≡ x
own_remainder (pos a) (pos n) l h = let k : a < n = omega (arith, ints) in ap pos (mod-eq_of_lt k)
own_remainder (pos a) (negsuc n) l h = absurd (omega (arith, ints))
own_remainder (negsuc a) d l h = absurd (omega (arith, ints))

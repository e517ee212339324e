-- Data that fit the copy loop of the examples.
use Rattle.std.proofs.Common.{◌≡◌, ℕ, zero, suc, ◌^◌, ◌<◌, ℤ, pos, negsuc, Bool, true, false, List, [], ◌∷◌, Some, is_some, cond, ◌&&◌, refl, arith}
use Rattle.std.specs.Prelude.{slice_get, IsTrue, nat_lt}
use Rattle.std.specs.List.{list_all}
use Rattle.std.proofs.lemmas.Bool.Decides.{nat_tests}
use Rattle.affc_ast.specs.Examples.{three, copying, SomeDataFit, ValuesKeepTheirSize}
use Rattle.affc_ast.specs.Fits.{has_element}
use Rattle.affc_ast.specs.Meaning.{arrays_of}
use Rattle.std.specs.Ordering.{eq_by_cmp}
use Rattle.affc_ast.specs.Store.{Element, element_cmp, at}

exactly : (c array : ℕ) (subscripts : List ℤ) → is_some (at (three 0 0 c) (array, subscripts)) ≡ has_element (slice_get (arrays_of copying.params) array) (array, subscripts) (pos 3 ∷ [])
exactly c zero [] = refl
exactly c zero (negsuc x ∷ []) = refl
exactly c zero (pos x ∷ []) = grind (arith, nat_tests)
exactly c zero (negsuc x ∷ y ∷ ys) = refl
exactly c zero (pos x ∷ y ∷ ys) = grind (arith, nat_tests)
exactly c (suc zero) [] = refl
exactly c (suc zero) (negsuc x ∷ []) = refl
exactly c (suc zero) (pos x ∷ []) = grind (arith, nat_tests)
exactly c (suc zero) (negsuc x ∷ y ∷ ys) = refl
exactly c (suc zero) (pos x ∷ y ∷ ys) = grind (arith, nat_tests)
exactly c (suc (suc a)) subscripts = grind (arith, nat_tests)

both : (a b : Bool) → IsTrue (a && b) → IsTrue a × IsTrue b
both true b h = (refl, h)
both false b h = cc

values : (entries : List (Element × ℕ)) → IsTrue (list_all (λ e. nat_lt e.1 (2 ^ 64)) entries) → (x : Element) (v : ℕ) → at entries x ≡ Some v → v < 2 ^ 64
values [] all x v found = cc
values (e ∷ es) all x v found =
    let small : IsTrue (nat_lt e.1 (2 ^ 64)) × IsTrue (list_all (λ (e : Element × ℕ). nat_lt e.1 (2 ^ 64)) es) = both _ _ all in
    elim (eq_by_cmp element_cmp x e.0) as (λ (b : Bool). cond b (Some e.1) (at es x) ≡ Some v → v < 2 ^ 64) [
      | true ↦ λ h. let same : e.1 ≡ v = cc in let first : nat_lt e.1 (2 ^ 64) ≡ true = small.0 in grind (arith, nat_tests)
      | false ↦ λ h. values es small.1 x v h
    ] found

pub some_data_fit : SomeDataFit
some_data_fit = record { ranges = refl; context = refl; ordered = refl; exactly = λ x. exactly 0 x.0 x.1; values = values (three 0 0 0) refl }

pub values_keep_their_size : ValuesKeepTheirSize
values_keep_their_size = (
  record { ranges = refl; context = refl; ordered = refl; exactly = λ x. exactly 18446744073709551615 x.0 x.1; values = values (three 0 0 18446744073709551615) refl },
  λ fits. too_large (fits.values (1, pos 2 ∷ []) 18446744073709551616 refl),
)
  where
    too_large : 18446744073709551616 < 2 ^ 64 → ⊥
    too_large h = omega (arith, h)

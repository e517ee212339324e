-- The numbers that are visible in the scopes of a text whose names are allowed.
use Rattle.std.proofs.Common.{◌≡◌, ℕ, suc, ◌<◌, Bool, true, false, [], ◌∷◌, Option, Some, None, is_some, count_by, refl, sym, ap, ◌∙◌, arith}
use Rattle.std.specs.Prelude.{if◌then◌else◌, nat_eq}
use Rattle.std.specs.List.{find}
use Rattle.std.proofs.lemmas.Bool.{false≢true}
use Rattle.std.proofs.lemmas.Bool.Decides.{nat_tests}
use Rattle.std.proofs.lemmas.List.Sums.{sum_by-cons}
use Rattle.affc_lex.specs.Bytes.{same}
use Rattle.affc_lex.proofs.Lists.{same_is, same_refl}
use Rattle.affc_ast.specs.declared.tree.Role.{Role}
use Rattle.affc_grammar.specs.declared.fault.NameWhy.TheVariants.{Twice, Reserved}
use Rattle.affc_grammar.specs.Grammar.{Name}
use Rattle.affc_grammar.specs.Names.{Thing, number, array, Visible, Scope, thing_of, is_number_thing, is_array_thing, with_thing, with_number, with_array, why_declared, is_refused_word, first_reason}
use Rattle.affc_plain.proofs.Small.{HasNumbers, number_of}

-- so many numbers are visible, and they are counted
pub record Counts (scope : Scope) (n : ℕ) : Type 0 where
  pub count : count_by is_number_thing scope.visible ≡ n
  pub numbers : HasNumbers scope n

-- a new thing is found by its name, and each other name finds what it found
pub thing_with : (scope : Scope) (w v : Name) (thing : Thing) → (t : Bool) → same w v ≡ t → thing_of (with_thing scope w thing) v ≡ (if t then Some thing else thing_of scope v)
thing_with scope w v thing true e = ap (λ (o : Option Visible). elim o [ None ↦ None | Some x ↦ Some x.thing ]) (here (same w v) e)
  where
    here : (t : Bool) → t ≡ true → (if t then Some (record { name = w; thing = thing }) else find (λ x. same x.name v) scope.visible) ≡ Some (record { name = w; thing = thing })
    here true e = refl
    here false e = absurd (false≢true e)
thing_with scope w v thing false e = ap (λ (o : Option Visible). elim o [ None ↦ None | Some x ↦ Some x.thing ]) (there (same w v) e)
  where
    there : (t : Bool) → t ≡ false → (if t then Some (record { name = w; thing = thing }) else find (λ x. same x.name v) scope.visible) ≡ find (λ x. same x.name v) scope.visible
    there true e = absurd (false≢true (sym e))
    there false e = refl

none_of : (o : Option Thing) → is_some o ≡ false → o ≡ None
none_of None e = refl
none_of (Some x) e = absurd (false≢true (sym e))

-- a name that is allowed to be declared is new
pub is_new : (scope : Scope) (it : Bool) (w : Name) → why_declared scope it w ≡ None → thing_of scope w ≡ None
is_new scope it w e = none_of (thing_of scope w) (first (is_some (thing_of scope w)) e)
  where
    first : (b : Bool) → first_reason ((b, Twice) ∷ (is_refused_word scope it w, Reserved) ∷ []) ≡ None → b ≡ false
    first true e = absurd (cc)
    first false e = refl

none_is_some : (t : Thing) → ◌≡◌ {A = Option Thing} None (Some t) → ⊥
none_is_some t e = cc

array_is_number : (k id : ℕ) (role : Role) (m : ℕ) (it : Bool) → ◌≡◌ {A = Option Thing} (Some (array k role m)) (Some (number id it)) → ⊥
array_is_number k id role m it e = cc

-- a new number is the next
pub with_new_number : (scope : Scope) (n : ℕ) (it : Bool) (w : Name) → Counts scope n → thing_of scope w ≡ None → Counts (with_number it scope w) (suc n)
with_new_number scope n it w h new = record {
  count = let k = sum_by-cons (λ (v : Visible). if is_number_thing v then 1 else 0) (record { name = w; thing = number (count_by is_number_thing scope.visible) it }) scope.visible in omega (arith, k, h.count);
  numbers = record { below = below; found = found; one = one };
}
  where
    m : ℕ
    m = count_by is_number_thing scope.visible

    old : (v : Name) → same w v ≡ false → thing_of (with_number it scope w) v ≡ thing_of scope v
    old v e = thing_with scope w v (number (count_by is_number_thing scope.visible) it) false e

    fresh : (v : Name) → same w v ≡ true → thing_of (with_number it scope w) v ≡ Some (number n it)
    fresh v e = thing_with scope w v (number (count_by is_number_thing scope.visible) it) true e ∙ ap (λ k. Some (number k it)) h.count

    below : (v : Name) (id : ℕ) (is : Bool) → thing_of (with_number it scope w) v ≡ Some (number id is) → id < suc n
    below v id is e = by (same w v) refl
      where
        by : (t : Bool) → same w v ≡ t → id < suc n
        by true k = let f = number_of n id it is (sym (fresh v k) ∙ e) in omega (arith, f)
        by false k = let f = h.numbers.below v id is (sym (old v k) ∙ e) in omega (arith, f)

    found : (id : ℕ) → id < suc n → (v : Name) × (is : Bool) × (thing_of (with_number it scope w) v ≡ Some (number id is))
    found id k = by (nat_eq id n) refl
      where
        by : (t : Bool) → nat_eq id n ≡ t → (v : Name) × (is : Bool) × (thing_of (with_number it scope w) v ≡ Some (number id is))
        by true e = let i : n ≡ id = grind (arith, nat_tests) in (w, it, fresh w (same_refl w) ∙ ap (λ k. Some (number k it)) i)
        by false e =
            let less : id < n = grind (arith, nat_tests) in
            let f = h.numbers.found id less in
            (f.0, f.1, old f.0 (apart (same w f.0) f refl) ∙ f.2)
          where
            apart : (t : Bool) → (f : (v : Name) × (is : Bool) × (thing_of scope v ≡ Some (number id is))) → same w f.0 ≡ t → same w f.0 ≡ false
            apart true f e = absurd (none_is_some _ (sym new ∙ ap (thing_of scope) (same_is w f.0 e) ∙ f.2))
            apart false f e = e

    one : (u v : Name) (id : ℕ) (is are : Bool) → thing_of (with_number it scope w) u ≡ Some (number id is) → thing_of (with_number it scope w) v ≡ Some (number id are) → u ≡ v
    one u v id is are e f = by (same w u) (same w v) refl refl
      where
        far : (x y : Name) (a b : Bool) → same w x ≡ true → same w y ≡ false → thing_of (with_number it scope w) x ≡ Some (number id a) → thing_of (with_number it scope w) y ≡ Some (number id b) → ⊥
        far x y a b j k e f =
            let i : n ≡ id = number_of n id it a (sym (fresh x j) ∙ e) in
            let l : id < n = h.numbers.below y id b (sym (old y k) ∙ f) in
            omega (arith, i, l)

        by : (s t : Bool) → same w u ≡ s → same w v ≡ t → u ≡ v
        by true true j k = sym (same_is w u j) ∙ same_is w v k
        by true false j k = absurd (far u v is are j k e f)
        by false true j k = absurd (far v u are is k j f e)
        by false false j k = h.numbers.one u v id is are (sym (old u j) ∙ e) (sym (old v k) ∙ f)

-- a new array leaves the numbers
pub with_new_array : (scope : Scope) (n : ℕ) (w : Name) (role : Role) (dimensions : ℕ) → Counts scope n → thing_of scope w ≡ None → Counts (with_array scope w role dimensions) n
with_new_array scope n w role dimensions h new = record {
  count = let k = sum_by-cons (λ (v : Visible). if is_number_thing v then 1 else 0) (record { name = w; thing = array (count_by is_array_thing scope.visible) role dimensions }) scope.visible in omega (arith, k, h.count);
  numbers = record { below = below; found = found; one = one };
}
  where
    old : (v : Name) → same w v ≡ false → thing_of (with_array scope w role dimensions) v ≡ thing_of scope v
    old v e = thing_with scope w v (array (count_by is_array_thing scope.visible) role dimensions) false e

    kept : (v : Name) (id : ℕ) (is : Bool) → thing_of (with_array scope w role dimensions) v ≡ Some (number id is) → thing_of scope v ≡ Some (number id is)
    kept v id is e = by (same w v) refl
      where
        by : (t : Bool) → same w v ≡ t → thing_of scope v ≡ Some (number id is)
        by true k = absurd (array_is_number _ id role dimensions is (sym (thing_with scope w v (array (count_by is_array_thing scope.visible) role dimensions) true k) ∙ e))
        by false k = sym (old v k) ∙ e

    below : (v : Name) (id : ℕ) (is : Bool) → thing_of (with_array scope w role dimensions) v ≡ Some (number id is) → id < n
    below v id is e = h.numbers.below v id is (kept v id is e)

    found : (id : ℕ) → id < n → (v : Name) × (is : Bool) × (thing_of (with_array scope w role dimensions) v ≡ Some (number id is))
    found id k =
        let f = h.numbers.found id k in
        (f.0, f.1, old f.0 (apart (same w f.0) f refl) ∙ f.2)
      where
        apart : (t : Bool) → (f : (v : Name) × (is : Bool) × (thing_of scope v ≡ Some (number id is))) → same w f.0 ≡ t → same w f.0 ≡ false
        apart true f e = absurd (none_is_some _ (sym new ∙ ap (thing_of scope) (same_is w f.0 e) ∙ f.2))
        apart false f e = e

    one : (u v : Name) (id : ℕ) (is are : Bool) → thing_of (with_array scope w role dimensions) u ≡ Some (number id is) → thing_of (with_array scope w role dimensions) v ≡ Some (number id are) → u ≡ v
    one u v id is are e f = h.numbers.one u v id is are (kept u id is e) (kept v id are f)

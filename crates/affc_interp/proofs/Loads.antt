-- What a load gives, by the cell of its element.
use Rattle.std.proofs.Common.{◌≡◌, ℕ, zero, suc, ◌+◌, ◌*◌, ◌<◌, ◌≤◌, ℤ, Bool, true, false, if◌then◌else◌, List, [], ◌∷◌, length, get_or, Option, Some, None, Result, Ok, Err, refl, sym, ap, subst, ◌∙◌, arith, ◌⊎◌, inl, inr}
use Rattle.std.specs.Prelude.{nat_lt, MatchOption}
use borrow.Author.Tests.{ltb-true, ltb-false}
use Rattle.std.proofs.lemmas.List.{length-map, get_or_past}
use Rattle.affc_ast.specs.declared.tree.ArrayId.{ArrayId}
use Rattle.affc_ast.specs.declared.tree.Instance.{Instance}
use Rattle.affc_ast.specs.Cause.{Cause, OutOfBounds, ◌>>=◌}
use Rattle.affc_ast.specs.Store.{Element, at}
use Rattle.affc_ast.specs.Values.{is_within, held, load, touch}
use Rattle.affc_interp.specs.declared.memory.Buffer.{Buffer}
use Rattle.affc_interp.specs.Layout.{size_of, offset_of, extents_in, store_held, Held, held_in, cell_at, AreLengths, AreWhole}
use Rattle.affc_interp.specs.Seen.{scope_at, loaded}
use Rattle.affc_interp.proofs.Places.{row, place_is, cell_lists}
use Rattle.affc_interp.proofs.Order.{held_at, not_held}

pub lengths_at : (bs : List Buffer) (a : ℕ) → AreWhole bs → AreLengths (get_or (extents_in bs) a [])
lengths_at [] a w = tt
lengths_at (b ∷ bs) zero w = w.0
lengths_at (b ∷ bs) (suc a) w = lengths_at bs a w.2

pub place_in : (bs : List Buffer) (a : ℕ) (xs : List ℤ) → AreWhole bs → offset_of (extents_in bs) a xs ≡ (if is_within xs (get_or (extents_in bs) a []) then Some (row xs (get_or (extents_in bs) a [])) else None)
place_in bs a xs w =
    let ns : List ℤ = get_or (extents_in bs) a [] in
    let z : 0 * size_of ns + row xs ns ≡ row xs ns = omega arith in
    place_is (size_of ns) 0 xs ns (lengths_at bs a w) (omega arith) ∙ ap (λ n. if is_within xs ns then Some n else None) z

less_or : (a n : ℕ) → (a < n) ⊎ (n ≤ a)
less_or a n = elim (nat_lt a n) as (λ (t : Bool). nat_lt a n ≡ t → (a < n) ⊎ (n ≤ a)) [ true ↦ λ e. inl (ltb-true a n e) | false ↦ λ e. inr (ltb-false a n e) ] refl

in_store : (bs : List Buffer) (a : ℕ) (xs : List ℤ) → AreWhole bs → is_within xs (get_or (extents_in bs) a []) ≡ true → at (store_held bs) (a, xs) ≡ cell_at bs a (row xs (get_or (extents_in bs) a []))
in_store bs a xs w e =
    elim (less_or a (length bs)) [
      | inl h ↦ held_at bs a xs w h e
      | inr h ↦ not_held bs a xs h ∙ sym (ap (λ cs. get_or cs (row xs (get_or (extents_in bs) a [])) None) (get_or_past (cell_lists bs) a [] (omega (arith, length-map bs (λ (b : Buffer). b.cells.items)))))
    ]

-- at the place that the subscripts lead to
pub load_is : (bs : List Buffer) (a : ArrayId) (xs : List ℤ) (p : Option ℕ) (names : List ℤ) (here : Instance) (access : ℕ) → AreWhole bs → p ≡ offset_of (extents_in bs) a.0 xs
    → load (scope_at names (held_in bs) here) (store_held bs) here access a xs ≡ loaded bs a.0 p here access
load_is bs a xs p names here access w e =
    let ns : List ℤ = get_or (extents_in bs) a.0 [] in
    elim (is_within xs ns) as (λ (t : Bool). is_within xs ns ≡ t → ((if t then Ok (a.0, xs) else Err (OutOfBounds here access)) >>= (λ x. held here access (at (store_held bs) x))) ≡ loaded bs a.0 p here access) [
      | true ↦ λ is.
          let q : p ≡ Some (row xs ns) = e ∙ place_in bs a.0 xs w ∙ ap (λ (t : Bool). if t then Some (row xs ns) else None) is in
          ap (held here access) (in_store bs a.0 xs w is) ∙ sym (ap (λ r. loaded bs a.0 r here access) q)
      | false ↦ λ is.
          let q : p ≡ None = e ∙ place_in bs a.0 xs w ∙ ap (λ (t : Bool). if t then Some (row xs ns) else None) is in
          sym (ap (λ r. loaded bs a.0 r here access) q)
    ] refl

pub load_at : (bs : List Buffer) (seen : Held) (a : ArrayId) (xs : List ℤ) (p : Option ℕ) (names : List ℤ) (here : Instance) (access : ℕ) → held_in bs ≡ seen → AreWhole bs → p ≡ offset_of seen.extents a.0 xs
    → load (scope_at names seen here) seen.store here access a xs ≡ loaded bs a.0 p here access
load_at bs seen a xs p names here access view w e =
    subst (λ (h : Held). p ≡ offset_of h.extents a.0 xs → load (scope_at names h here) h.store here access a xs ≡ loaded bs a.0 p here access) view (load_is bs a xs p names here access w) e

abbrev inside_or : Bool → Element → Instance → ℕ → Result Element Cause
inside_or t x here access = if t then Ok x else Err (OutOfBounds here access)

abbrev IsTouched : Option ℕ → Element → Instance → ℕ → Result Element Cause → Type 0
IsTouched p x here access r = MatchOption p (r ≡ Err (OutOfBounds here access)) (λ k. r ≡ Ok x)

from_test : (x : Element) (r : ℕ) (here : Instance) (access : ℕ) (t : Bool) → IsTouched (if t then Some r else None) x here access (inside_or t x here access)
from_test x r here access true = refl
from_test x r here access false = refl

touch_is : (bs : List Buffer) (a : ArrayId) (xs : List ℤ) (p : Option ℕ) (names : List ℤ) (here : Instance) (access : ℕ) → AreWhole bs → p ≡ offset_of (extents_in bs) a.0 xs
    → IsTouched p (a.0, xs) here access (touch (scope_at names (held_in bs) here) here access a xs)
touch_is bs a xs p names here access w e =
    let ns : List ℤ = get_or (extents_in bs) a.0 [] in
    let x : Element = (a.0, xs) in
    subst (λ (q : Option ℕ). IsTouched q x here access (inside_or (is_within xs ns) x here access)) (sym (e ∙ place_in bs a.0 xs w)) (from_test x (row xs ns) here access (is_within xs ns))

touch_at : (bs : List Buffer) (seen : Held) (a : ArrayId) (xs : List ℤ) (p : Option ℕ) (names : List ℤ) (here : Instance) (access : ℕ) → held_in bs ≡ seen → AreWhole bs → p ≡ offset_of seen.extents a.0 xs
    → IsTouched p (a.0, xs) here access (touch (scope_at names seen here) here access a xs)
touch_at bs seen a xs p names here access view w e =
    subst (λ (h : Held). p ≡ offset_of h.extents a.0 xs → IsTouched p (a.0, xs) here access (touch (scope_at names h here) here access a xs)) view (touch_is bs a xs p names here access w) e

pub touched_not : (bs : List Buffer) (seen : Held) (a : ArrayId) (xs : List ℤ) (p : Option ℕ) (names : List ℤ) (here : Instance) (access : ℕ) → held_in bs ≡ seen → AreWhole bs → p ≡ None → p ≡ offset_of seen.extents a.0 xs
    → touch (scope_at names seen here) here access a xs ≡ Err (OutOfBounds here access)
touched_not bs seen a xs p names here access view w is e =
    subst (λ (q : Option ℕ). IsTouched q (a.0, xs) here access (touch (scope_at names seen here) here access a xs)) is (touch_at bs seen a xs p names here access view w e)

pub touched : (bs : List Buffer) (seen : Held) (a : ArrayId) (xs : List ℤ) (p : Option ℕ) (k : ℕ) (names : List ℤ) (here : Instance) (access : ℕ) → held_in bs ≡ seen → AreWhole bs → p ≡ Some k → p ≡ offset_of seen.extents a.0 xs
    → touch (scope_at names seen here) here access a xs ≡ Ok (a.0, xs)
touched bs seen a xs p k names here access view w is e =
    subst (λ (q : Option ℕ). IsTouched q (a.0, xs) here access (touch (scope_at names seen here) here access a xs)) is (touch_at bs seen a xs p names here access view w e)

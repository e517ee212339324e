-- Stores as maps.
use Rattle.std.proofs.Common.{◌≡◌, ℕ, Bool, true, false, T, cond, Some, Ordering, refl, sym, ap, ◌∙◌}
use Rattle.std.specs.Prelude.{IsTrue}
use Rattle.std.specs.declared.cmp.Ordering.TheVariants.{Less, Equal, Greater}
use Rattle.std.specs.Cmp.{IsTotalOrder, nat_cmp_total, int_cmp_total, then_total, on_total, tied_itself}
use Rattle.std.specs.Cmp.Lexicographic.{lists_total, slice_cmp}
use Rattle.std.specs.FinMap.{nat_cmp-IsAntisymmetric, int_cmp-IsAntisymmetric, slice_cmp-IsAntisymmetric}
use Rattle.std.specs.FinMap.Entries.{find-put, is_sorted-put, is_sorted, same_entries}
use Rattle.std.specs.Ordering.{eq_by_cmp, is_eq, nat_cmp, int_cmp, ordering_then}
use Rattle.affc_ast.specs.Store.{Element, Store, element_cmp, at, with_value}

pub element_cmp_total : IsTotalOrder element_cmp
element_cmp_total = then_total (on_total (λ (x : Element). x.0) nat_cmp_total) (on_total (λ (x : Element). x.1) (lists_total int_cmp_total))

both_tied : (r s : Ordering) → ordering_then r s ≡ Equal → (r ≡ Equal) × (s ≡ Equal)
both_tied Less s e = cc
both_tied Equal s e = (refl, e)
both_tied Greater s e = cc

-- elements that tie are one
pub element_cmp-IsAntisymmetric : (x y : Element) → element_cmp x y ≡ Equal → x ≡ y
element_cmp-IsAntisymmetric x y e =
    let b = both_tied (nat_cmp x.0 y.0) (slice_cmp int_cmp x.1 y.1) e in
    let arrays = nat_cmp-IsAntisymmetric x.0 y.0 b.0 in
    let subscripts = slice_cmp-IsAntisymmetric int_cmp-IsAntisymmetric x.1 y.1 b.1 in
    λ i. (arrays i, subscripts i)

pub at-with_value : (store : Store) (x y : Element) (v : ℕ) → at (with_value store x v) y ≡ cond (eq_by_cmp element_cmp y x) (Some v) (at store y)
at-with_value store x y v = find-put element_cmp element_cmp_total y x v store

pub stored : (store : Store) (x : Element) (v : ℕ) → at (with_value store x v) x ≡ Some v
stored store x v = at-with_value store x x v ∙ ap (λ r. cond (is_eq r) (Some v) (at store x)) (tied_itself element_cmp_total x)

pub others : (store : Store) (x y : Element) (v : ℕ) → (x ≡ y → ⊥) → at (with_value store x v) y ≡ at store y
others store x y v differ =
    at-with_value store x y v
    ∙ elim (element_cmp y x) as (λ (r : Ordering). element_cmp y x ≡ r → cond (is_eq r) (Some v) (at store y) ≡ at store y) [
      | Less ↦ λ _. refl
      | Equal ↦ λ tie. absurd (differ (sym (element_cmp-IsAntisymmetric y x tie)))
      | Greater ↦ λ _. refl
    ] refl

-- a test that is true, as std's lemmas take it
pub tested : (b : Bool) → IsTrue b → T b
tested true h = tt
tested false h = cc

pub is_true : (b : Bool) → T b → IsTrue b
is_true true h = refl
is_true false h = absurd h

pub in_order : (store : Store) (x : Element) (v : ℕ) → IsTrue (is_sorted element_cmp store) → IsTrue (is_sorted element_cmp (with_value store x v))
in_order store x v h = is_true _ (is_sorted-put element_cmp element_cmp_total x v store (tested _ h))

pub one : (a b : Store) → IsTrue (is_sorted element_cmp a) → IsTrue (is_sorted element_cmp b) → ((x : Element) → at a x ≡ at b x) → a ≡ b
one a b p q same = same_entries element_cmp element_cmp_total element_cmp-IsAntisymmetric a b (tested _ p) (tested _ q) same

-- The greatest distance of a slice is that of the list of its pairs.
use Rattle.std.proofs.Common.{◌≡◌, ℕ, zero, suc, ◌<◌, ◌≤◌, ℤ, Bool, true, false, true≢false, if◌then◌else◌, List, [], ◌∷◌, take, Some, refl, sym, ap, subst, ◌∙◌, ◌⊎◌, inl, inr, arith}
use Rattle.std.specs.Prelude.{slice_get, nat_eq, nat_le, ◌&&◌}
use Rattle.std.proofs.lemmas.Bool.{eqb-true, eq-eqb, leb-true}
use Rattle.std.proofs.lemmas.Bool.Decides.{leb_tells}
use Rattle.std.proofs.lemmas.Option.{same_Some, none-some}
use Rattle.affc_rows.specs.Forms.{Affine}
use Rattle.affc_ast.specs.declared.tree.Program.{Program}
use Rattle.affc_ast.specs.Store.{Element}
use Rattle.affc_trace.specs.declared.schedule.Schedule.{Schedule}
use Rattle.affc_trace.specs.Law.{IsIn}
use Rattle.affc_trace.specs.Dataflow.{AreLive, LivePair, live_pairs}
use Rattle.affc_trace.proofs.Members.{in_filter, to_filter, both_hold, hold_both}
use Rattle.affc_trace.proofs.Found.{live_pairs_are_found}
use Rattle.affc_basis.specs.Slices.{along, InSlice, agree_along, slice_of, greatest_along}
use Rattle.affc_basis.specs.Laws.{SliceIsFound, GreatestIsFound}

-- ---- rows along which two elements agree

agree_before : (rows : List Affine) (k : ℕ) (x y : List ℤ) → agree_along (take k rows) x y ≡ true → (j : ℕ) (row : Affine) → j < k → slice_get rows j ≡ Some row → along row x y ≡ 0
agree_before [] k x y e j row h at = absurd (none-some row at)
agree_before (r ∷ rows) zero x y e j row h at = absurd (omega arith)
agree_before (r ∷ rows) (suc k) x y e zero row h at =
    let b = both_hold (nat_eq (along r x y) 0) (agree_along (take k rows) x y) e in
    ap (λ u. along u x y) (sym (same_Some r row at)) ∙ eqb-true (along r x y) 0 b.0
agree_before (r ∷ rows) (suc k) x y e (suc j) row h at =
    let b = both_hold (nat_eq (along r x y) 0) (agree_along (take k rows) x y) e in
    agree_before rows k x y b.1 j row (omega arith) at

before_agree : (rows : List Affine) (k : ℕ) (x y : List ℤ) → ((j : ℕ) (row : Affine) → j < k → slice_get rows j ≡ Some row → along row x y ≡ 0) → agree_along (take k rows) x y ≡ true
before_agree [] zero x y h = refl
before_agree [] (suc k) x y h = refl
before_agree (r ∷ rows) zero x y h = refl
before_agree (r ∷ rows) (suc k) x y h =
    hold_both (nat_eq (along r x y) 0) (agree_along (take k rows) x y) (eq-eqb (along r x y) 0 (h zero r (omega arith) refl))
    (before_agree rows k x y (λ j row l at. h (suc j) row (omega arith) at))

-- ---- the greatest distance of a list

at_most : (d n : ℕ) (t : Bool) (m : ℕ) → nat_le d n ≡ t → m ≤ n ⊎ (m ≡ d) → m ≤ (if t then n else d)
at_most d n true m e (inl h) = h
at_most d n true m e (inr h) = let l : d ≤ n = leb-true d n e in omega arith
at_most d n false m e h = elim (leb_tells d n) [
  | inl l ↦ absurd (true≢false (sym l.0 ∙ e))
  | inr l ↦ elim h [ inl k ↦ omega (arith, l.1) | inr k ↦ omega arith ]
]

greatest_most : (row : Affine) (es : List (Element × Element)) (e : Element × Element) → IsIn e es → along row e.0.1 e.1.1 ≤ greatest_along row es
greatest_most row [] e i = absurd i
greatest_most row (f ∷ es) e (inl q) = at_most (along row f.0.1 f.1.1) (greatest_along row es) (nat_le (along row f.0.1 f.1.1) (greatest_along row es)) _ refl (inr (ap (λ z. along row z.0.1 z.1.1) q))
greatest_most row (f ∷ es) e (inr i) = at_most (along row f.0.1 f.1.1) (greatest_along row es) (nat_le (along row f.0.1 f.1.1) (greatest_along row es)) _ refl (inl (greatest_most row es e i))

Attained : Affine → List (Element × Element) → ℕ → Type 0
Attained row es n = (n ≡ 0) ⊎ ((e : Element × Element) × IsIn e es × (along row e.0.1 e.1.1 ≡ n))

attained_by : (row : Affine) (f : Element × Element) (es : List (Element × Element)) (n : ℕ) (t : Bool) → Attained row es n → Attained row (f ∷ es) (if t then n else along row f.0.1 f.1.1)
unfolding Attained
attained_by row f es n true (inl z) = inl z
attained_by row f es n true (inr a) = inr (a.0, inr a.1, a.2)
attained_by row f es n false h = inr (f, inl refl, refl)

greatest_attained : (row : Affine) (es : List (Element × Element)) → Attained row es (greatest_along row es)
unfolding Attained
greatest_attained row [] = inl refl
greatest_attained row (f ∷ es) = attained_by row f es (greatest_along row es) (nat_le (along row f.0.1 f.1.1) (greatest_along row es)) (greatest_attained row es)

-- ---- a program's slices

module _ (program : Program) (schedule : Schedule) (array : ℕ) (p : List ℤ) (rows : List Affine) (k : ℕ) where
  abbrev pub in_slice : Element × Element → Bool
  in_slice e = nat_eq e.0.0 array && agree_along (take k rows) e.0.1 e.1.1

  abbrev pub pairs_in : List (Element × Element)
  pairs_in = slice_of (live_pairs program schedule p) array rows k

  pub found_slice : (x y : List ℤ) → InSlice (LivePair program schedule array p) rows k x y → IsIn ((array, x), (array, y)) pairs_in
  found_slice x y s =
      to_filter in_slice (live_pairs program schedule p) ((array, x), (array, y)) ((live_pairs_are_found program schedule p (array, x) (array, y)).1 s.pair)
      (hold_both (nat_eq array array) (agree_along (take k rows) x y) (eq-eqb array array refl) (before_agree rows k x y s.agrees))

  -- a pair of the list is of the array, and in the slice
  slice_found : (a b : Element) → IsIn (a, b) pairs_in → (a.0 ≡ array) × (b.0 ≡ array) × InSlice (LivePair program schedule array p) rows k a.1 b.1
  slice_found a b i =
      let f = in_filter in_slice (live_pairs program schedule p) (a, b) i in
      let tests = both_hold (nat_eq a.0 array) (agree_along (take k rows) a.1 b.1) f.1 in
      let first : a.0 ≡ array = eqb-true a.0 array tests.0 in
      let live : AreLive program schedule p a b = (live_pairs_are_found program schedule p a b).0 f.0 in
      let second : b.0 ≡ array = sym live.one_array ∙ first in
      let here : AreLive program schedule p (array, a.1) (array, b.1) =
      subst (λ z. AreLive program schedule p (z, a.1) (array, b.1)) first (subst (λ z. AreLive program schedule p a (z, b.1)) second live) in
      (first, second, record { pair = here; agrees = agree_before rows k a.1 b.1 tests.1 })

pub slice_is_found : SliceIsFound
slice_is_found program schedule array p rows k x y =
    (λ i. (slice_found program schedule array p rows k (array, x) (array, y) i).2, found_slice program schedule array p rows k x y)

pub greatest_is_found : GreatestIsFound
unfolding Attained
greatest_is_found program schedule array p rows k row =
    let pairs : List (Element × Element) = slice_of (live_pairs program schedule p) array rows k in
    record {
      most = λ x y s. greatest_most row pairs ((array, x), (array, y)) (found_slice program schedule array p rows k x y s);
      attained = elim (greatest_attained row pairs) [
        | inl z ↦ inl z
        | inr a ↦ inr (a.0.0.1, a.0.1.1, (slice_found program schedule array p rows k a.0.0 a.0.1 a.1).2, a.2)
      ];
    }

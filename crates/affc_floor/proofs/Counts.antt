-- The elements whose spans are open.
use Rattle.std.proofs.Common.{◌≡◌, ◌≢◌, ℕ, zero, suc, ◌+◌, ◌<◌, ◌≤◌, ℤ, Bool, true, false, if◌then◌else◌, cond, nat_le, nat_lt, List, [], ◌∷◌, length, get_or, map, Option, Some, None, refl, sym, ap, subst, ◌∙◌, inl, inr, arith}
use Rattle.std.specs.Prelude.{◌↔◌, slice_get, filter}
use Rattle.std.specs.List.{count_by}
use Rattle.std.proofs.lemmas.Bool.{leb-true, le-leb, ltb-true, lt-ltb}
use Rattle.std.proofs.lemmas.List.Sums.{sum_by-cons}
use Rattle.std.proofs.lemmas.Option.{slice_get_within, slice_get_cases, get_or_from_slice_get}
use Rattle.affc_ast.specs.declared.tree.Instance.{Instance}
use Rattle.affc_ast.specs.declared.tree.Program.{Program}
use Rattle.affc_ast.specs.Store.{Element}
use Rattle.affc_ast.specs.Trace.{trace}
use Rattle.affc_trace.specs.declared.schedule.Schedule.{Schedule}
use Rattle.affc_trace.specs.Dataflow.{same_element}
use Rattle.affc_trace.specs.Effects.{effect}
use Rattle.affc_trace.specs.Law.{IsIn}
use Rattle.affc_trace.specs.Orders.{Earlier, AreDistinct}
use Rattle.affc_trace.specs.Target.{target}
use Rattle.affc_trace.proofs.Contents.{target_is_reordered_law}
use Rattle.affc_trace.proofs.Legality.{earlier_is_in}
use Rattle.affc_trace.proofs.Members.{in_map, to_map, in_filter, to_filter, both_hold, hold_both}
use Rattle.affc_trace.proofs.Targets.{same_element_decides}
use Rattle.affc_floor.specs.Live.{LiveAt, AreLiveAt, AreInOrder, IsFloor}
use Rattle.affc_floor.proofs.LiveLemmas.{source_stores, no_more}
use Rattle.affc_floor.specs.declared.life.Stored.{Stored}
use Rattle.affc_floor.specs.declared.life.Life.{Life}
use Rattle.affc_floor.specs.Lives.{IsOpen, IsWanted, HasOpen, AreApart, AreLives}
use Rattle.affc_floor.specs.declared.span.Span.{Span}
use Rattle.affc_floor.specs.declared.span.Most.{Most}
use Rattle.affc_floor.specs.Spans.{is_open, open_at, IsGreatest}
use Rattle.affc_floor.specs.Positions.{spot, IsStoreOf, IsEntry, AreStores}
use Rattle.affc_floor.specs.PositionLaws.{GreatestOpenIsFloor, NoneOpenIsNone}
use Rattle.affc_floor.proofs.Places.{subs_in, is_in, position, one_position, positions_rise, wanted, live}

-- ---- tests

open_is : (i : ℕ) (s : Span) → is_open i s ≡ true → IsOpen i s
open_is i s e = let b = both_hold (nat_le s.from i) (nat_lt i s.until) e in (leb-true s.from i b.0, ltb-true i s.until b.1)

is_open_of : (i : ℕ) (s : Span) → IsOpen i s → is_open i s ≡ true
is_open_of i s o = hold_both (nat_le s.from i) (nat_lt i s.until) (le-leb s.from i o.0) (lt-ltb i s.until o.1)

-- ---- the elements whose spans are open

module _ (array : ℕ) (elements : List (List ℤ)) (i : ℕ) where
  abbrev test : Life → Bool
  test l = is_open i l.span

  abbrev pub opened : List Life → List (List ℤ)
  opened found = map (λ (l : Life). subs_in (get_or elements l.slot [])) (filter (λ (l : Life). is_open i l.span) found)

  bits : (p : Life → Bool) (l : Life) (found : List Life) → count_by p (l ∷ found) ≡ cond (p l) 1 0 + count_by p found
  bits p l found = sum_by-cons (λ x. cond (p x) 1 0) l found

  if_long : (b : Bool) (l : Life) (rest : List Life) (n : ℕ) → length (map (λ (l : Life). subs_in (get_or elements l.slot [])) rest) ≡ n
      → length (map (λ (l : Life). subs_in (get_or elements l.slot [])) (if b then l ∷ rest else rest)) ≡ cond b 1 0 + n
  if_long true l rest n e = ap suc e ∙ one n
    where
      one : (n : ℕ) → suc n ≡ 1 + n
      one n = omega arith
  if_long false l rest n e = e ∙ zero_more n
    where
      zero_more : (n : ℕ) → n ≡ 0 + n
      zero_more n = omega arith

  pub as_many : (found : List Life) → length (opened found) ≡ open_at i (map (λ (l : Life). l.span) found)
  as_many [] = refl
  as_many (l ∷ found) =
      if_long (is_open i l.span) l (filter (λ (l : Life). is_open i l.span) found) (open_at i (map (λ (l : Life). l.span) found)) (as_many found)
      ∙ sym (sum_by-cons (λ s. cond (is_open i s) 1 0) l.span (map (λ (l : Life). l.span) found))

  -- a span that is open is listed
  pub listed : (found : List Life) (slot : ℕ) (x : List ℤ) → HasOpen found i slot → slice_get elements slot ≡ Some (spot (array, x)) → IsIn x (opened found)
  listed found slot x o e =
      let inside : IsIn o.life found = is_in found o.number o.life o.there in
      let kept : IsIn o.life (filter (λ (l : Life). is_open i l.span) found) = to_filter (λ (l : Life). is_open i l.span) found o.life inside (is_open_of i o.life.span o.is_open) in
      let same : subs_in (get_or elements o.life.slot []) ≡ x = ap (λ n. subs_in (get_or elements n [])) o.its_slot ∙ ap subs_in (get_or_from_slice_get elements slot (spot (array, x)) [] e) in
      subst (λ y. IsIn y (opened found)) same (to_map (λ (l : Life). subs_in (get_or elements l.slot [])) (filter (λ (l : Life). is_open i l.span) found) o.life kept)

  -- and what is listed is open
  pub from_list : (found : List Life) (x : List ℤ) → IsIn x (opened found) → (l : Life) × IsIn l found × IsOpen i l.span × (x ≡ subs_in (get_or elements l.slot []))
  from_list found x j =
      let m = in_map (λ (l : Life). subs_in (get_or elements l.slot [])) (filter (λ (l : Life). is_open i l.span) found) x j in
      let f = in_filter (λ (l : Life). is_open i l.span) found m.0 m.1 in
      (m.0, f.0, open_is i m.0.span f.1, m.2)

  module _ (different : AreDistinct elements) where
    abbrev Valid : List Life → Type 0
    Valid found = (l : Life) → IsIn l found → IsOpen i l.span → (x : List ℤ) × (slice_get elements l.slot ≡ Some (spot (array, x)))

    if_distinct : (b : Bool) (l : Life) (found : List Life) → is_open i l.span ≡ b → Valid (l ∷ found) → AreApart (l ∷ found) → AreDistinct (opened found)
        → AreDistinct (map (λ (l : Life). subs_in (get_or elements l.slot [])) (if b then l ∷ filter (λ (l : Life). is_open i l.span) found else filter (λ (l : Life). is_open i l.span) found))
    if_distinct false l found e valid apart d = d
    if_distinct true l found e valid apart d = (
      λ j. (let f = from_list found (subs_in (get_or elements l.slot [])) j in
          let mine = valid l (inl refl) (open_is i l.span e) in
          let its = valid f.0 (inr f.1) f.2 in
          let same : mine.0 ≡ its.0 = sym (ap subs_in (get_or_from_slice_get elements l.slot (spot (array, mine.0)) [] mine.1)) ∙ f.3 ∙ ap subs_in (get_or_from_slice_get elements f.0.slot (spot (array, its.0)) [] its.1) in
          let slots : l.slot ≡ f.0.slot = one_position elements l.slot f.0.slot (spot (array, mine.0)) different mine.1 (its.1 ∙ ap (λ y. Some (spot (array, y))) (sym same)) in
          let k = position found f.0 f.1 in
          zero_not_suc k.0 (apart zero (suc k.0) l f.0 i refl k.1 slots (open_is i l.span e) f.2)),
      d,
    )
      where
        zero_not_suc : (k : ℕ) → ◌≡◌ {A = ℕ} zero (suc k) → ⊥
        zero_not_suc k e = omega arith

    pub opened_distinct : (found : List Life) → Valid found → AreApart found → AreDistinct (opened found)
    opened_distinct [] valid apart = tt
    opened_distinct (l ∷ found) valid apart =
        if_distinct (is_open i l.span) l found refl valid apart
        (opened_distinct found (λ m j o. valid m (inr j) o) (λ j k a b n e f q o p. one_less j k (apart (suc j) (suc k) a b n e f q o p)))
      where
        one_less : (j k : ℕ) → ◌≡◌ {A = ℕ} (suc j) (suc k) → j ≡ k
        one_less j k e = omega arith

-- ---- the greatest

module _ (program : Program) (schedule : Schedule) (array : ℕ) (p : List ℤ) (elements : List (List ℤ)) (stores : List (Option Stored)) (found : List Life) (are : AreStores program schedule array p elements stores) (lives : AreLives stores found) where
  -- a wanted slot has an element
  valid_slot : (i slot : ℕ) → IsWanted stores i slot → (x : List ℤ) × (slice_get elements slot ≡ Some (spot (array, x)))
  valid_slot i slot w =
      let low : w.at < length stores = slice_get_within stores w.at (Some w.store) w.there in
      let in_target : w.at < length (target program schedule p) = subst (λ n. w.at < n) are.long low in
      elim (slice_get_cases (target program schedule p) w.at).1 [
        | inl f ↦ (let o : IsStoreOf program schedule array p elements f.0 w.store = are.each w.at f.0 (Some w.store) f.2 w.there in (o.element, ap (slice_get elements) (sym w.its_slot) ∙ o.its_slot))
        | inr f ↦ (let past : length (target program schedule p) ≤ w.at = f.0 in absurd (omega arith))
      ]

  valid : (i : ℕ) (l : Life) → IsIn l found → IsOpen i l.span → (x : List ℤ) × (slice_get elements l.slot ≡ Some (spot (array, x)))
  valid i l j o =
      let k = position found l j in
      valid_slot i l.slot (lives.live i l.slot (record { number = k.0; life = l; there = k.1; its_slot = refl; is_open = o }))

  -- an element that is live has a slot
  slotted : (i : ℕ) (at : Instance) (x : List ℤ) → slice_get (target program schedule p) i ≡ Some at → LiveAt program schedule array p at x → (slot : ℕ) × (slice_get elements slot ≡ Some (spot (array, x)))
  slotted i at x here l =
      let stored : (array, x) ≡ (effect program p l.store).stores = source_stores (effect program p) same_element same_element_decides (trace program p) l.load l.store (array, x) l.source in
      let a_in : IsIn l.store (target program schedule p) = elim l.since [
        | inl e ↦ subst (λ z. IsIn z (target program schedule p)) (sym e) (is_in (target program schedule p) i at here)
        | inr e ↦ earlier_is_in (target program schedule p) l.store at e
      ] in
      let s = position (target program schedule p) l.store a_in in
      let low : s.0 < length (target program schedule p) = slice_get_within (target program schedule p) s.0 l.store s.1 in
      let in_stores : s.0 < length stores = subst (λ n. s.0 < n) (sym are.long) low in
      elim (slice_get_cases stores s.0).1 [
        | inl f ↦ by_entry l.store stored f.0 (are.each s.0 l.store f.0 s.1 f.2)
        | inr f ↦ (let past : length stores ≤ s.0 = f.0 in absurd (omega arith))
      ]
    where
      by_entry : (a : Instance) → (array, x) ≡ (effect program p a).stores → (o : Option Stored) → IsEntry program schedule array p elements a o → (slot : ℕ) × (slice_get elements slot ≡ Some (spot (array, x)))
      by_entry a stored None n = absurd (n (ap (λ (z : Element). z.0) (sym stored)))
      by_entry a stored (Some st) o = (st.slot, o.its_slot ∙ ap (λ y. Some (spot (array, y))) (ap (λ (z : Element). z.1) (o.stores ∙ sym stored)))

  -- at each instant no more elements are live than spans are open
  pub at_most : (i : ℕ) (at : Instance) (ys : List (List ℤ)) → slice_get (target program schedule p) i ≡ Some at → AreLiveAt program schedule array p at ys → length ys ≤ open_at i (map (λ (l : Life). l.span) found)
  at_most i at ys here all =
      subst (λ n. length ys ≤ n) (as_many array elements i found)
      (no_more ys (opened array elements i found) all.distinct (λ y j.
      let s = slotted i at y here (all.live y j) in
      listed array elements i found s.0 y (lives.all i s.0 (wanted program schedule array p elements stores are i at s.0 y here s.1 (all.live y j))) s.1))

  module _ (m : Most) (at : Instance) (xs : List (List ℤ)) (g : IsGreatest (map (λ (l : Life). l.span) found) m) (here : slice_get (target program schedule p) m.at ≡ Some at) (ordered : AreInOrder xs)
      (members : (x : List ℤ) → IsIn x xs ↔ ((slot : ℕ) × (slice_get elements slot ≡ Some (spot (array, x))) × HasOpen found m.at slot)) where
    to_live : (x : List ℤ) → IsIn x xs → LiveAt program schedule array p at x
    to_live x j =
        let a = (members x).0 j in
        live program schedule array p elements stores are m.at at a.0 x here a.1 (lives.live m.at a.0 a.2)

    from_live : (x : List ℤ) → LiveAt program schedule array p at x → IsIn x xs
    from_live x l =
        let s = slotted m.at at x here l in
        (members x).1 (s.0, s.1, lives.all m.at s.0 (wanted program schedule array p elements stores are m.at at s.0 x here s.1 l))

    -- as many elements as spans
    enough : m.spans ≤ length xs
    enough =
        let all_in : (x : List ℤ) → IsIn x (opened array elements m.at found) → IsIn x xs = λ x j.
        (let f = from_list array elements m.at found x j in
        let v = valid m.at f.0 f.1 f.2 in
        let k = position found f.0 f.1 in
        let same : x ≡ v.0 = f.3 ∙ ap subs_in (get_or_from_slice_get elements f.0.slot (spot (array, v.0)) [] v.1) in
        (members x).1 (f.0.slot, v.1 ∙ ap (λ y. Some (spot (array, y))) (sym same), record { number = k.0; life = f.0; there = k.1; its_slot = refl; is_open = f.2 })) in
        let fits : length (opened array elements m.at found) ≤ length xs = no_more (opened array elements m.at found) xs (opened_distinct array elements m.at are.different found (valid m.at) lives.apart) all_in in
        let counted : length (opened array elements m.at found) ≡ open_at m.at (map (λ (l : Life). l.span) found) = as_many array elements m.at found in
        let there : open_at m.at (map (λ (l : Life). l.span) found) ≡ m.spans = g.there in
        omega arith

    not_none : (zs : List (List ℤ)) → m.spans ≤ length zs → zs ≢ []
    not_none [] h e = let some : 1 ≤ m.spans = g.some in absurd (omega arith)
    not_none (z ∷ zs) h e = cons_not_nil e
      where
        cons_not_nil : z ∷ zs ≡ [] → ⊥
        cons_not_nil e = let n : suc (length zs) ≡ 0 = ap length e in omega arith

    most : (i : Instance) (ys : List (List ℤ)) → AreLiveAt program schedule array p i ys → length ys ≤ length xs
    most i [] a = omega arith
    most i (y ∷ ys) a =
        let l = a.live y (inl refl) in
        let k = position (target program schedule p) i (earlier_is_in (target program schedule p) i l.load l.until) in
        let few : length (y ∷ ys) ≤ open_at k.0 (map (λ (l : Life). l.span) found) = at_most k.0 i (y ∷ ys) k.1 a in
        let top : open_at k.0 (map (λ (l : Life). l.span) found) ≤ m.spans = g.most k.0 in
        let fits : m.spans ≤ length xs = enough in
        omega arith

    first : (i : Instance) (ys : List (List ℤ)) → Earlier (target program schedule p) i at → AreLiveAt program schedule array p i ys → length ys < length xs
    first i ys e a =
        let k = position (target program schedule p) i (earlier_is_in (target program schedule p) i at e) in
        let before : k.0 < m.at = positions_rise (target program schedule p) k.0 m.at i at (target_is_reordered_law program schedule p).once_in_target k.1 here e in
        let few : length ys ≤ open_at k.0 (map (λ (l : Life). l.span) found) = at_most k.0 i ys k.1 a in
        let fewer : open_at k.0 (map (λ (l : Life). l.span) found) < m.spans = g.first k.0 before in
        let fits : m.spans ≤ length xs = enough in
        omega arith

    pub is_floor : IsFloor program schedule array p (Some at) xs
    is_floor = record { some = not_none xs enough; in_order = ordered; exactly = λ x. (to_live x, from_live x); most = most; first = first }

pub greatest_open_is_floor : GreatestOpenIsFloor
greatest_open_is_floor program schedule array p elements stores found m at xs are lives g here ordered members =
    is_floor program schedule array p elements stores found are lives m at xs g here ordered members

pub none_open_is_none : NoneOpenIsNone
none_open_is_none program schedule array p elements stores found are lives none = (
  refl,
  λ i x l.
      let k = position (target program schedule p) i (earlier_is_in (target program schedule p) i l.load l.until) in
      let one : AreLiveAt program schedule array p i (x ∷ []) = record { distinct = (λ j. j, tt); live = λ y j. elim j [ inl e ↦ subst (LiveAt program schedule array p i) (sym e) l | inr n ↦ absurd n ] } in
      let few : length (x ∷ []) ≤ open_at k.0 (map (λ (l : Life). l.span) found) = at_most program schedule array p elements stores found are lives k.0 i (x ∷ []) k.1 one in
      let nothing : open_at k.0 (map (λ (l : Life). l.span) found) ≡ 0 = none k.0 in
      over (open_at k.0 (map (λ (l : Life). l.span) found)) few nothing,
)
  where
    over : (n : ℕ) → 1 ≤ n → n ≡ 0 → ⊥
    over n h e = omega (arith, h, e)

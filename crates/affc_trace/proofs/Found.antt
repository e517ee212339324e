-- The lists of sources, live pairs and violations hold exactly these.
use Rattle.std.proofs.Common.{◌≡◌, ◌≢◌, Bool, true, false, true≢false, ℤ, List, [], map, flat_map, Option, Some, None, refl, sym, ap, subst, ◌∙◌, ◌⊎◌, inl, inr}
use Rattle.std.specs.Prelude.{filter, not, nat_eq, ◌&&◌, ◌||◌}
use Rattle.std.proofs.lemmas.Bool.{eqb-true, eq-eqb}
use Rattle.affc_ast.specs.declared.tree.Instance.{Instance}
use Rattle.affc_ast.specs.declared.tree.Program.{Program}
use Rattle.affc_ast.specs.Store.{Element}
use Rattle.affc_ast.specs.Trace.{trace, loads_of, store_of}
use Rattle.affc_trace.specs.declared.schedule.Schedule.{Schedule}
use Rattle.affc_trace.specs.Law.{IsIn, last_store}
use Rattle.affc_trace.specs.Orders.{Earlier, AreDistinct, Dependent, StoredBetween}
use Rattle.affc_trace.specs.Effects.{effect}
use Rattle.affc_trace.specs.Target.{target}
use Rattle.affc_trace.specs.Dataflow.{same_element, same_instance, OneArray, Legal, Violates, AreLive, up_to, past, is_among, source, between, rivals, stored_pairs, live_pairs, are_dependent, violations}
use Rattle.affc_trace.specs.Laws.{SourceIsFound, LivePairsAreFound, ViolationsAreFound, LegalHasNoViolations}
use Rattle.affc_trace.proofs.Legality.{later_is_in, one_way, in_rest}
use Rattle.affc_trace.proofs.Once.{once, in_append, in_flat_map}
use Rattle.affc_trace.proofs.Contents.{target_is_reordered_law}
use Rattle.affc_trace.proofs.Targets.{same_element_decides, same_instance_decides}
use Rattle.affc_trace.proofs.Members.{to_first, to_second, to_flat_map, in_map, to_map, in_filter, to_filter, no_members, both_hold, hold_both, either_holds, holds_first, holds_second, not_true, true_not, among_is_in, in_is_among, split_up_to, up_to_split, before_is_earlier, earlier_is_before, between_is_within, within_is_between}

-- ---- sources

pub source_is_found : SourceIsFound
source_is_found program p b x s = (
  λ h. let inside : IsIn b (trace program p) = subst (IsIn b) (sym h.2) (in_rest h.0 h.1 b) in
      let here : up_to b (trace program p) ≡ h.0 = ap (up_to b) h.2 ∙ up_to_split h.0 h.1 b (subst AreDistinct h.2 (once program p)) in
      (inside, ap (λ done. last_store same_element (effect program p) done x) here ∙ h.3),
  λ h. (up_to b (trace program p), past b (trace program p), split_up_to (trace program p) b h.0, h.1),
)

-- ---- live pairs

abbrev is_rival : Element → Element → Bool
is_rival x y = nat_eq x.0 y.0 && not (same_element x y)

rival_is : (x y : Element) → is_rival x y ≡ true → OneArray x y × (x ≢ y)
rival_is x y e =
    let b = both_hold (nat_eq x.0 y.0) (not (same_element x y)) e in
    (eqb-true x.0 y.0 b.0, λ q. not_true (same_element x y) b.1 ((same_element_decides x y).1 q))

is_rival_of : (x y : Element) → OneArray x y → x ≢ y → is_rival x y ≡ true
is_rival_of x y e n = hold_both (nat_eq x.0 y.0) (not (same_element x y)) (eq-eqb x.0 y.0 e) (true_not (same_element x y) (λ s. n ((same_element_decides x y).0 s)))

module _ (program : Program) (schedule : Schedule) (p : List ℤ) where
  Between : Element → Element → Type 0
  Between x y = StoredBetween (effect program p) same_element (trace program p) (target program schedule p) x y

  record IsStoredPair (x y : Element) : Type 0 where
    one_array : OneArray x y
    distinct : x ≢ y
    stored : StoredBetween (effect program p) same_element (trace program p) (target program schedule p) x y

  in_target : (b : Instance) → IsIn b (trace program p) → IsIn b (target program schedule p)
  in_target b i = (target_is_reordered_law program schedule p).kept b i

  stored_by : (b : Instance) (x y : Element) (s : Option Instance) → source program p b x ≡ s → IsIn b (trace program p) → IsIn x (loads_of program p b)
      → IsIn y (rivals x (map (store_of program p) (between s b (target program schedule p)))) → IsStoredPair x y
  stored_by b x y None e b_in x_in i =
      absurd ((in_filter (is_rival x) [] y i).0)
  stored_by b x y (Some a) e b_in x_in i =
      let r = in_filter (is_rival x) (map (store_of program p) (past a (up_to b (target program schedule p)))) y i in
      let m = in_map (store_of program p) (past a (up_to b (target program schedule p))) y r.0 in
      let w = between_is_within (target program schedule p) (target_is_reordered_law program schedule p).once_in_target a b (in_target b b_in) m.0 m.1 in
      let q = rival_is x y r.1 in
      record {
        one_array = q.0;
        distinct = q.1;
        stored = record { store = a; load = b; other = m.0; loads = x_in; source = (source_is_found program p b x (Some a)).1 (b_in, e); stores = m.2; after = w.0; before = w.1 };
      }

  abbrev pairs_of_load : Instance → Element → List (Element × Element)
  pairs_of_load b x = map (λ y. (x, y)) (rivals x (map (store_of program p) (between (source program p b x) b (target program schedule p))))

  abbrev pairs_of : Instance → List (Element × Element)
  pairs_of b = flat_map (pairs_of_load b) (loads_of program p b)

  from_stored : (x y : Element) → IsIn (x, y) (stored_pairs program schedule p) → IsStoredPair x y
  from_stored x y i =
      let b = in_flat_map pairs_of (trace program p) (x, y) i in
      let l = in_flat_map (pairs_of_load b.0) (loads_of program p b.0) (x, y) b.2 in
      let m = in_map (λ (z : Element). (l.0, z)) (rivals l.0 (map (store_of program p) (between (source program p b.0 l.0) b.0 (target program schedule p)))) (x, y) l.2 in
      let same_x : x ≡ l.0 = ap (λ e. e.0) m.2 in
      let same_y : y ≡ m.0 = ap (λ e. e.1) m.2 in
      subst (λ z. IsStoredPair z y) (sym same_x) (subst (IsStoredPair l.0) (sym same_y) (stored_by b.0 l.0 m.0 (source program p b.0 l.0) refl b.1 l.1 m.1))

  to_stored : (x y : Element) → OneArray x y → x ≢ y → StoredBetween (effect program p) same_element (trace program p) (target program schedule p) x y → IsIn (x, y) (stored_pairs program schedule p)
  to_stored x y one n h =
      let f = (source_is_found program p h.load x (Some h.store)).0 h.source in
      let c_in = within_is_between (target program schedule p) (target_is_reordered_law program schedule p).once_in_target h.store h.load (in_target h.load f.0) h.other h.after h.before in
      let places : List Element = map (store_of program p) (past h.store (up_to h.load (target program schedule p))) in
      let stored : IsIn y places = subst (λ z. IsIn z places) (sym h.stores) (to_map (store_of program p) (past h.store (up_to h.load (target program schedule p))) h.other c_in) in
      let rival : IsIn y (rivals x places) = to_filter (is_rival x) places y stored (is_rival_of x y one n) in
      let found : IsIn y (rivals x (map (store_of program p) (between (source program p h.load x) h.load (target program schedule p)))) =
      subst (λ s. IsIn y (rivals x (map (store_of program p) (between s h.load (target program schedule p))))) (sym f.1) rival in
      to_flat_map pairs_of (trace program p) h.load (x, y) f.0
      (to_flat_map (pairs_of_load h.load) (loads_of program p h.load) x (x, y) h.loads (to_map (λ (z : Element). (x, z)) _ y found))

  turned : Element × Element → Element × Element
  turned e = (e.1, e.0)

  pub live_found : (x y : Element) → IsIn (x, y) (live_pairs program schedule p) → AreLive program schedule p x y
  unfolding turned
  live_found x y i = elim (in_append (stored_pairs program schedule p) _ (x, y) i) [
    | inl j ↦ (let s = from_stored x y j in record { distinct = s.distinct; one_array = s.one_array; between = inl s.stored })
    | inr j ↦ (let m = in_map turned (stored_pairs program schedule p) (x, y) j in
        let same_x : x ≡ m.0.1 = ap (λ e. e.0) m.2 in
        let same_y : y ≡ m.0.0 = ap (λ e. e.1) m.2 in
        let s = from_stored m.0.0 m.0.1 m.1 in
        subst (λ z. AreLive program schedule p z y) (sym same_x) (subst (AreLive program schedule p m.0.1) (sym same_y)
        (record { distinct = λ e. s.distinct (sym e); one_array = sym s.one_array; between = inr s.stored })))
  ]

  pub found_live : (x y : Element) → AreLive program schedule p x y → IsIn (x, y) (live_pairs program schedule p)
  unfolding turned
  found_live x y live = elim live.between [
    | inl s ↦ to_first (stored_pairs program schedule p) _ (x, y) (to_stored x y live.one_array live.distinct s)
    | inr s ↦ to_second (stored_pairs program schedule p) _ (x, y)
        (to_map turned (stored_pairs program schedule p) (y, x) (to_stored y x (sym live.one_array) (λ e. live.distinct (sym e)) s))
  ]

pub live_pairs_are_found : LivePairsAreFound
live_pairs_are_found program schedule p x y = (live_found program schedule p x y, found_live program schedule p x y)

-- ---- dependences that are turned round

module _ (program : Program) (p : List ℤ) (a b : Instance) where
  dependent_is : are_dependent program p a b ≡ true → Dependent (effect program p) a b
  dependent_is e = elim (either_holds (same_element (store_of program p a) (store_of program p b) || is_among same_element (store_of program p a) (loads_of program p b)) _ e) [
    | inl f ↦ elim (either_holds (same_element (store_of program p a) (store_of program p b)) _ f) [
      | inl g ↦ record { element = store_of program p a; first = inr refl; second = inr ((same_element_decides _ _).0 g); stored = inl refl }
      | inr g ↦ record { element = store_of program p a; first = inr refl; second = inl (among_is_in same_element same_element_decides _ _ g); stored = inl refl }
    ]
    | inr f ↦ record { element = store_of program p b; first = inl (among_is_in same_element same_element_decides _ _ f); second = inr refl; stored = inr refl }
  ]

  by_first : (x : Element) → x ≡ store_of program p a → IsIn x (loads_of program p b) ⊎ (x ≡ store_of program p b) → are_dependent program p a b ≡ true
  by_first x e (inl i) = holds_first (same_element (store_of program p a) (store_of program p b) || is_among same_element (store_of program p a) (loads_of program p b)) _
      (holds_second (same_element (store_of program p a) (store_of program p b)) _ (in_is_among same_element same_element_decides _ _ (subst (λ z. IsIn z (loads_of program p b)) e i)))
  by_first x e (inr f) = holds_first (same_element (store_of program p a) (store_of program p b) || is_among same_element (store_of program p a) (loads_of program p b)) _
      (holds_first (same_element (store_of program p a) (store_of program p b)) _ ((same_element_decides _ _).1 (sym e ∙ f)))

  by_second : (x : Element) → x ≡ store_of program p b → IsIn x (loads_of program p a) ⊎ (x ≡ store_of program p a) → are_dependent program p a b ≡ true
  by_second x e (inl i) = holds_second (same_element (store_of program p a) (store_of program p b) || is_among same_element (store_of program p a) (loads_of program p b)) _
      (in_is_among same_element same_element_decides _ _ (subst (λ z. IsIn z (loads_of program p a)) e i))
  by_second x e (inr f) = by_first x f (inr e)

  is_dependent : Dependent (effect program p) a b → are_dependent program p a b ≡ true
  is_dependent d = elim d.stored [ inl e ↦ by_first d.element e d.second | inr e ↦ by_second d.element e d.first ]

module _ (program : Program) (schedule : Schedule) (p : List ℤ) where
  abbrev is_turned : Instance → Instance → Bool
  is_turned b a = are_dependent program p a b && not (is_among same_instance a (up_to b (target program schedule p)))

  abbrev violations_of : Instance → List (Instance × Instance)
  violations_of b = map (λ a. (a, b)) (filter (is_turned b) (up_to b (trace program p)))

  pub violation_found : (a b : Instance) → IsIn (a, b) (violations program schedule p) → Violates program schedule p a b
  violation_found a b i =
      let t = in_flat_map violations_of (trace program p) (a, b) i in
      let m = in_map (λ (z : Instance). (z, t.0)) (filter (is_turned t.0) (up_to t.0 (trace program p))) (a, b) t.2 in
      let f = in_filter (is_turned t.0) (up_to t.0 (trace program p)) m.0 m.1 in
      let same_a : a ≡ m.0 = ap (λ e. e.0) m.2 in
      let same_b : b ≡ t.0 = ap (λ e. e.1) m.2 in
      let tests = both_hold (are_dependent program p m.0 t.0) _ f.1 in
      let reordered = target_is_reordered_law program schedule p in
      let earlier = before_is_earlier (trace program p) (once program p) t.0 t.1 m.0 f.0 in
      subst (λ z. Violates program schedule p z b) (sym same_a) (subst (Violates program schedule p m.0) (sym same_b) (record {
        different = λ q. one_way (trace program p) m.0 t.0 (once program p) earlier (subst (λ z. Earlier (trace program p) z m.0) q (subst (λ z. Earlier (trace program p) m.0 z) (sym q) earlier));
        dependent = dependent_is program p m.0 t.0 tests.0;
        earlier = earlier;
        not_earlier = λ e. not_true (is_among same_instance m.0 (up_to t.0 (target program schedule p))) tests.1
            (in_is_among same_instance same_instance_decides m.0 _ (earlier_is_before (target program schedule p) reordered.once_in_target t.0 (reordered.kept t.0 t.1) m.0 e));
      }))

  pub found_violation : (a b : Instance) → Violates program schedule p a b → IsIn (a, b) (violations program schedule p)
  found_violation a b v =
      let reordered = target_is_reordered_law program schedule p in
      let b_in = later_is_in (trace program p) a b v.earlier in
      let a_in = earlier_is_before (trace program p) (once program p) b b_in a v.earlier in
      let test = hold_both (are_dependent program p a b) (not (is_among same_instance a (up_to b (target program schedule p)))) (is_dependent program p a b v.dependent)
      (true_not (is_among same_instance a (up_to b (target program schedule p))) (λ e. v.not_earlier
      (before_is_earlier (target program schedule p) reordered.once_in_target b (reordered.kept b b_in) a (among_is_in same_instance same_instance_decides a _ e)))) in
      to_flat_map violations_of (trace program p) b (a, b) b_in (to_map (λ (z : Instance). (z, b)) _ a (to_filter (is_turned b) (up_to b (trace program p)) a a_in test))

  kept_or_not : (a b : Instance) → IsIn b (target program schedule p) → (t : Bool) → is_among same_instance a (up_to b (target program schedule p)) ≡ t
      → (((Earlier (target program schedule p) a b) → ⊥) → ⊥) → Earlier (target program schedule p) a b
  kept_or_not a b b_in true e n =
      before_is_earlier (target program schedule p) (target_is_reordered_law program schedule p).once_in_target b b_in a (among_is_in same_instance same_instance_decides a _ e)
  kept_or_not a b b_in false e n = absurd (n (λ f. true≢false (sym (in_is_among same_instance same_instance_decides a _
      (earlier_is_before (target program schedule p) (target_is_reordered_law program schedule p).once_in_target b b_in a f)) ∙ e)))

  pub legal_by_list : violations program schedule p ≡ [] → Legal program schedule p
  legal_by_list none a b different dependent earlier =
      let b_in = (target_is_reordered_law program schedule p).kept b (later_is_in (trace program p) a b earlier) in
      kept_or_not a b b_in (is_among same_instance a (up_to b (target program schedule p))) refl (λ n.
      subst (IsIn (a, b)) none (found_violation a b (record { different = different; dependent = dependent; earlier = earlier; not_earlier = n })))

  pub list_of_legal : Legal program schedule p → violations program schedule p ≡ []
  list_of_legal legal = no_members (violations program schedule p) (λ e i.
      let v = violation_found e.0 e.1 i in
      v.not_earlier (legal e.0 e.1 v.different v.dependent v.earlier))

pub violations_are_found : ViolationsAreFound
violations_are_found program schedule p a b = (violation_found program schedule p a b, found_violation program schedule p a b)

pub legal_has_no_violations : LegalHasNoViolations
legal_has_no_violations program schedule p = (list_of_legal program schedule p, legal_by_list program schedule p)

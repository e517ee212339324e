-- Positions and what stands before what.
use Rattle.std.proofs.Common.{◌≡◌, ℕ, zero, suc, ◌<◌, ◌≤◌, ℤ, List, [], ◌∷◌, length, Option, Some, None, refl, sym, ap, subst, ◌∙◌, ◌⊎◌, inl, inr, arith}
use Rattle.std.specs.Prelude.{slice_get}
use Rattle.std.proofs.lemmas.Option.{same_Some, none-some, slice_get_within, slice_get_cases}
use Rattle.affc_ast.specs.declared.tree.Instance.{Instance}
use Rattle.affc_ast.specs.declared.tree.Program.{Program}
use Rattle.affc_ast.specs.Store.{Element}
use Rattle.affc_ast.specs.Trace.{trace}
use Rattle.affc_trace.specs.declared.schedule.Schedule.{Schedule}
use Rattle.affc_trace.specs.Dataflow.{same_element}
use Rattle.affc_trace.specs.Effects.{effect}
use Rattle.affc_trace.specs.Law.{IsIn}
use Rattle.affc_trace.specs.Orders.{Earlier, AreDistinct}
use Rattle.affc_trace.specs.Target.{target}
use Rattle.affc_trace.proofs.Contents.{target_is_reordered_law}
use Rattle.affc_trace.proofs.Legality.{earlier_is_in, later_is_in, one_way}
use Rattle.affc_trace.proofs.Targets.{same_element_decides}
use Rattle.affc_floor.specs.Live.{LiveAt}
use Rattle.affc_floor.proofs.LiveLemmas.{source_stores}
use Rattle.affc_floor.specs.declared.life.Stored.{Stored}
use Rattle.affc_floor.specs.Lives.{IsWanted}
use Rattle.affc_floor.specs.Positions.{spot, IsLoadOf, IsStoreOf, IsEntry, AreStores}
use Rattle.affc_floor.specs.PositionLaws.{WantedIsLive}

-- the subscripts of a spot
abbrev pub subs_in : List ℤ → List ℤ
subs_in [] = []
subs_in (x ∷ xs) = xs

-- ---- positions

pub is_in : {A : Type 0} (xs : List A) (k : ℕ) (a : A) → slice_get xs k ≡ Some a → IsIn a xs
is_in [] k a e = absurd (none-some a e)
is_in (x ∷ xs) zero a e = inl (sym (same_Some x a e))
is_in (x ∷ xs) (suc k) a e = inr (is_in xs k a e)

pub position : {A : Type 0} (xs : List A) (a : A) → IsIn a xs → (k : ℕ) × (slice_get xs k ≡ Some a)
position [] a i = absurd i
position (x ∷ xs) a (inl e) = (zero, ap Some (sym e))
position (x ∷ xs) a (inr i) = let r = position xs a i in (suc r.0, r.1)

pub in_order : {A : Type 0} (xs : List A) (i j : ℕ) (a b : A) → slice_get xs i ≡ Some a → slice_get xs j ≡ Some b → i < j → Earlier xs a b
in_order [] i j a b e f h = absurd (none-some a e)
in_order (x ∷ xs) zero zero a b e f h = absurd (omega arith)
in_order (x ∷ xs) zero (suc j) a b e f h = inl (sym (same_Some x a e), is_in xs j b f)
in_order (x ∷ xs) (suc i) zero a b e f h = absurd (omega arith)
in_order (x ∷ xs) (suc i) (suc j) a b e f h = inr (in_order xs i j a b e f (omega arith))

pub one_position : {A : Type 0} (xs : List A) (i j : ℕ) (a : A) → AreDistinct xs → slice_get xs i ≡ Some a → slice_get xs j ≡ Some a → i ≡ j
one_position [] i j a d e f = absurd (none-some a e)
one_position (x ∷ xs) zero zero a d e f = refl
one_position (x ∷ xs) zero (suc j) a d e f = absurd (d.0 (subst (λ z. IsIn z xs) (sym (same_Some x a e)) (is_in xs j a f)))
one_position (x ∷ xs) (suc i) zero a d e f = absurd (d.0 (subst (λ z. IsIn z xs) (sym (same_Some x a f)) (is_in xs i a e)))
one_position (x ∷ xs) (suc i) (suc j) a d e f = ap suc (one_position xs i j a d.1 e f)

below_or_past : (a b : ℕ) → (a < b) ⊎ (b ≤ a)
below_or_past zero zero = inr (omega arith)
below_or_past zero (suc b) = inl (omega arith)
below_or_past (suc a) zero = inr (omega arith)
below_or_past (suc a) (suc b) = elim (below_or_past a b) [ inl h ↦ inl (omega arith) | inr h ↦ inr (omega arith) ]

-- what stands before another has the lower position
pub positions_rise : (xs : List Instance) (i j : ℕ) (a b : Instance) → AreDistinct xs → slice_get xs i ≡ Some a → slice_get xs j ≡ Some b → Earlier xs a b → i < j
positions_rise xs i j a b d e f g = elim (below_or_past i j) [
  | inl h ↦ h
  | inr h ↦ elim (below_or_past j i) [
    | inl l ↦ absurd (one_way xs a b d g (in_order xs j i b a f e l))
    | inr l ↦
        let q : i ≡ j = omega arith in
        let same : a ≡ b = same_Some a b (sym e ∙ ap (slice_get xs) q ∙ f) in
        absurd (one_way xs a b d g (subst (λ z. Earlier xs z a) same (subst (λ z. Earlier xs a z) (sym same) g)))
  ]
]

module _ (program : Program) (schedule : Schedule) (array : ℕ) (p : List ℤ) (elements : List (List ℤ)) (stores : List (Option Stored)) (are : AreStores program schedule array p elements stores)
    (i : ℕ) (at : Instance) (slot : ℕ) (x : List ℤ) (here : slice_get (target program schedule p) i ≡ Some at) (its : slice_get elements slot ≡ Some (spot (array, x))) where
  once_there : AreDistinct (target program schedule p)
  once_there = (target_is_reordered_law program schedule p).once_in_target

  -- the entry at a position of the target
  pub entry : (k : ℕ) (a : Instance) → slice_get (target program schedule p) k ≡ Some a → (s : Option Stored) × (slice_get stores k ≡ Some s) × IsEntry program schedule array p elements a s
  entry k a e =
      let low : k < length (target program schedule p) = slice_get_within (target program schedule p) k a e in
      let in_stores : k < length stores = subst (λ n. k < n) (sym are.long) low in
      elim (slice_get_cases stores k).1 [
        | inl f ↦ (f.0, f.2, are.each k a f.0 e f.2)
        | inr f ↦ (let past : length stores ≤ k = f.0 in absurd (omega arith))
      ]

  slot_is : (s : Stored) (a : Instance) → (array, x) ≡ (effect program p a).stores → (o : IsStoreOf program schedule array p elements a s) → s.slot ≡ slot
  slot_is s a stored o =
      let same : o.element ≡ x = ap (λ (z : Element). z.1) (o.stores ∙ sym stored) in
      one_position elements s.slot slot (spot (array, x)) are.different (o.its_slot ∙ ap (λ y. Some (spot (array, y))) same) its

  pub wanted : LiveAt program schedule array p at x → IsWanted stores i slot
  wanted l =
      let stored : (array, x) ≡ (effect program p l.store).stores = source_stores (effect program p) same_element same_element_decides (trace program p) l.load l.store (array, x) l.source in
      let a_in : IsIn l.store (target program schedule p) = elim l.since [
        | inl e ↦ subst (λ z. IsIn z (target program schedule p)) (sym e) (is_in (target program schedule p) i at here)
        | inr e ↦ earlier_is_in (target program schedule p) l.store at e
      ] in
      let s = position (target program schedule p) l.store a_in in
      let k = position (target program schedule p) l.load (later_is_in (target program schedule p) at l.load l.until) in
      let before : i < k.0 = positions_rise (target program schedule p) i k.0 at l.load once_there here k.1 l.until in
      let since : s.0 ≤ i = elim l.since [
        | inl e ↦ (let q : s.0 ≡ i = one_position (target program schedule p) s.0 i at once_there (s.1 ∙ ap Some e) here in omega arith)
        | inr e ↦ (let q : s.0 < i = positions_rise (target program schedule p) s.0 i l.store at once_there s.1 here e in omega arith)
      ] in
      let t = entry s.0 l.store s.1 in
      by_entry l.load s.0 k.0 l.store stored (record { loads = l.loads; source = l.source }) k.1 before since t.0 t.1 t.2
    where
      by_entry : (b : Instance) (s k : ℕ) (a : Instance) → (array, x) ≡ (effect program p a).stores → IsLoadOf program array p a b x → slice_get (target program schedule p) k ≡ Some b → i < k → s ≤ i
          → (o : Option Stored) → slice_get stores s ≡ Some o → IsEntry program schedule array p elements a o → IsWanted stores i slot
      by_entry b s k a stored loaded at_k before since None there n = absurd (n (ap (λ (z : Element). z.0) (sym stored)))
      by_entry b s k a stored loaded at_k before since (Some st) there o =
          let same : x ≡ o.element = ap (λ (z : Element). z.1) (stored ∙ sym o.stores) in
          let most : k ≤ st.until = o.most b k (subst (IsLoadOf program array p a b) same loaded) at_k in
          record { at = s; store = st; there = there; its_slot = slot_is st a stored o; since = since; until = omega arith }

  pub live : IsWanted stores i slot → LiveAt program schedule array p at x
  live w =
      let low : w.at < length stores = slice_get_within stores w.at (Some w.store) w.there in
      let in_target : w.at < length (target program schedule p) = subst (λ n. w.at < n) are.long low in
      elim (slice_get_cases (target program schedule p) w.at).1 [
        | inl f ↦ by_store f.0 f.2 (are.each w.at f.0 (Some w.store) f.2 w.there)
        | inr f ↦ (let past : length (target program schedule p) ≤ w.at = f.0 in absurd (omega arith))
      ]
    where
      by_store : (a : Instance) → slice_get (target program schedule p) w.at ≡ Some a → IsStoreOf program schedule array p elements a w.store → LiveAt program schedule array p at x
      by_store a at_a o =
          let same : o.element ≡ x = ap subs_in (same_Some (spot (array, o.element)) (spot (array, x)) (sym o.its_slot ∙ ap (slice_get elements) w.its_slot ∙ its)) in
          elim o.attained [
            | inl z ↦ (let u : i < w.store.until = w.until in absurd (omega arith))
            | inr b ↦
                let load : IsLoadOf program array p a b.0 x = subst (IsLoadOf program array p a b.0) same b.1 in
                record {
                  store = a;
                  load = b.0;
                  loads = load.loads;
                  source = load.source;
                  since = elim (below_or_past w.at i) [
                    | inl h ↦ inr (in_order (target program schedule p) w.at i a at at_a here h)
                    | inr h ↦ inl (let s : w.at ≤ i = w.since in let q : w.at ≡ i = omega arith in same_Some a at (sym at_a ∙ ap (slice_get (target program schedule p)) q ∙ here))
                  ];
                  until = in_order (target program schedule p) i w.store.until at b.0 here b.2 w.until;
                }
          ]

pub wanted_is_live : WantedIsLive
wanted_is_live program schedule array p elements stores i at slot x are here its = (
  wanted program schedule array p elements stores are i at slot x here its,
  live program schedule array p elements stores are i at slot x here its,
)

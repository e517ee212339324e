-- The answer is one, and a floor under all slots.
use Rattle.std.proofs.Common.{◌≡◌, ◌≢◌, ℕ, ◌<◌, ◌≤◌, ℤ, List, [], ◌∷◌, length, Option, Some, None, refl, sym, ap, subst, ◌∙◌, inl, inr, arith, Bool, true, false, true≢false}
use Rattle.std.specs.Cmp.{IsTotalOrder, int_cmp_total}
use Rattle.std.specs.Cmp.Lexicographic.{slice_cmp, lists_total}
use Rattle.std.specs.Ordering.{int_cmp}
use Rattle.affc_ast.specs.declared.tree.Instance.{Instance}
use Rattle.affc_ast.specs.declared.tree.Program.{Program}
use Rattle.affc_trace.specs.declared.schedule.Schedule.{Schedule}
use Rattle.affc_trace.specs.Dataflow.{same_instance}
use Rattle.affc_trace.specs.Law.{IsIn}
use Rattle.affc_trace.specs.Orders.{Earlier, AreDistinct}
use Rattle.affc_trace.specs.Target.{target}
use Rattle.affc_trace.proofs.Earliers.{rising_are_distinct}
use Rattle.affc_trace.proofs.Legality.{earlier_is_in, either_way}
use Rattle.affc_trace.proofs.Sorted.{one_list}
use Rattle.affc_trace.proofs.Targets.{same_instance_decides}
use Rattle.affc_floor.specs.Live.{LiveAt, AreLiveAt, AreInOrder, IsGreatestLive, IsFloor}
use Rattle.affc_floor.specs.Laws.{KeepsApart, FloorIsOne, FloorIsBelowIn}
use Rattle.affc_floor.proofs.LiveLemmas.{slots}

order : IsTotalOrder (slice_cmp int_cmp)
order = lists_total int_cmp_total

pub distinct : (xs : List (List ℤ)) → AreInOrder xs → AreDistinct xs
distinct xs h = rising_are_distinct (slice_cmp int_cmp) order xs h

first_of_some : {A : Type 0} (xs : List A) → xs ≢ [] → (x : A) × IsIn x xs
first_of_some [] n = absurd (n refl)
first_of_some (x ∷ xs) n = (x, inl refl)

module _ (program : Program) (schedule : Schedule) (array : ℕ) (p : List ℤ) where
  are_live : (at : Instance) (xs : List (List ℤ)) → IsGreatestLive program schedule array p at xs → AreLiveAt program schedule array p at xs
  are_live at xs g = record { distinct = distinct xs g.in_order; live = λ x i. (g.exactly x).0 i }

  in_target : (at : Instance) (xs : List (List ℤ)) → IsGreatestLive program schedule array p at xs → IsIn at (target program schedule p)
  in_target at xs g =
      let x = first_of_some xs g.some in
      let l : LiveAt program schedule array p at x.0 = (g.exactly x.0).0 x.1 in
      earlier_is_in (target program schedule p) at l.load l.until

  not_before : (at at' : Instance) (xs ys : List (List ℤ)) → IsGreatestLive program schedule array p at xs → IsGreatestLive program schedule array p at' ys → Earlier (target program schedule p) at at' → ⊥
  not_before at at' xs ys g h e =
      let fewer : length xs < length ys = h.first at xs e (are_live at xs g) in
      let most : length ys ≤ length xs = g.most at' ys (are_live at' ys h) in
      omega arith

  same_instant : (at at' : Instance) (xs ys : List (List ℤ)) → IsGreatestLive program schedule array p at xs → IsGreatestLive program schedule array p at' ys → at ≡ at'
  same_instant at at' xs ys g h = by_test (same_instance at at') refl
    where
      by_test : (t : Bool) → same_instance at at' ≡ t → at ≡ at'
      by_test true e = (same_instance_decides at at').0 e
      by_test false e =
          let apart : at ≢ at' = λ q. true≢false (sym ((same_instance_decides at at').1 q) ∙ e) in
          absurd (elim (either_way (target program schedule p) at at' apart (in_target at xs g) (in_target at' ys h)) [
            | inl b ↦ not_before at at' xs ys g h b
            | inr b ↦ not_before at' at ys xs h g b
          ])

  one : (at at' : Option Instance) (xs ys : List (List ℤ)) → IsFloor program schedule array p at xs → IsFloor program schedule array p at' ys → (at ≡ at') × (xs ≡ ys)
  one None None xs ys f g = (refl, f.0 ∙ sym g.0)
  one None (Some at) xs ys f g = let x = first_of_some ys g.some in absurd (f.1 at x.0 ((g.exactly x.0).0 x.1))
  one (Some at) None xs ys f g = let x = first_of_some xs f.some in absurd (g.1 at x.0 ((f.exactly x.0).0 x.1))
  one (Some at) (Some at') xs ys f g =
      let same : at ≡ at' = same_instant at at' xs ys f g in
      let there : (x : List ℤ) → IsIn x xs → IsIn x ys = λ x i. (g.exactly x).1 (subst (λ a. LiveAt program schedule array p a x) same ((f.exactly x).0 i)) in
      let back : (x : List ℤ) → IsIn x ys → IsIn x xs = λ x i. (f.exactly x).1 (subst (λ a. LiveAt program schedule array p a x) (sym same) ((g.exactly x).0 i)) in
      (ap Some same, one_list (slice_cmp int_cmp) order xs ys (distinct xs f.in_order) (distinct ys g.in_order) there back f.in_order g.in_order)

  module _ (S : Type 0) where
    below : (at : Option Instance) (xs : List (List ℤ)) (slot : List ℤ → S) (used : List S) → IsFloor program schedule array p at xs → KeepsApart program schedule array p slot
        → ((x : List ℤ) → IsIn x xs → IsIn (slot x) used) → length xs ≤ length used
    below None xs slot used f apart inside = let e : length xs ≡ 0 = ap length f.0 in omega arith
    below (Some at) xs slot used f apart inside = (slots S program schedule array p slot at xs apart (are_live at xs f)).1 used inside

pub floor_is_one : FloorIsOne
floor_is_one program schedule array p at at' xs ys f g = one program schedule array p at at' xs ys f g

pub floor_is_below : (S : Type 0) → FloorIsBelowIn S
floor_is_below S program schedule array p at xs slot used f apart inside = below program schedule array p S at xs slot used f apart inside

-- Runs against the faults of their instances.
use Rattle.std.proofs.Common.{◌≡◌, ℕ, zero, suc, ℤ, pos, ◌+ℤ◌, Bool, true, false, ◌||◌, cond, if◌then◌else◌, List, [], ◌∷◌, ◌++◌, flat_map, Option, Some, None, Result, Ok, Err, refl, sym, ap, subst, ◌∙◌, inl, inr}
use Rattle.std.specs.Prelude.{is_some}
use Rattle.std.specs.Ordering.{eq_by_cmp}
use Rattle.std.specs.FinMap.Entries.{find-put}
use Rattle.affc_ast.specs.declared.tree.Instance.{Instance}
use Rattle.affc_ast.specs.Cause.{Cause}
use Rattle.affc_ast.specs.Index.{in_int64, is_int64}
use Rattle.affc_ast.specs.Meaning.{State, Outcome, Ended, Stuck, then_do, reading, begun, write, turns}
use Rattle.affc_ast.specs.Store.{Element, at, element_cmp}
use Rattle.affc_ast.specs.Trace.{count_from}
use Rattle.affc_trace.specs.Law.{Effect, IsIn, or_else}
use Rattle.affc_trace.proofs.Runs.{element_cmp_total}
use Rattle.affc_safe.proofs.Wants.{int64_ok}
use Rattle.affc_floor.specs.Faults.{Holding, fault_of, with_stored, first_fault, cause_of}
use Rattle.affc_floor.proofs.Says.{or_none, or_assoc, Says}

-- which elements hold a value
abbrev pub holds : State → Holding
holds t x = is_some (at t.store x)

module _ (extents : List (List ℤ)) (its : Instance → Effect Element ℕ) where
  -- which do after these instances
  abbrev pub after : Holding → List Instance → Holding
  after has [] = has
  after has (b ∷ is) = after (with_stored extents (its b).stores has) is

  -- a part of a run that has these instances
  unfoldable pub Goes : State → List Instance → Outcome → Type 0
  Goes t is (Ended t') = (first_fault extents its (holds t) is ≡ None) × (holds t' ≡ after (holds t) is)
  Goes t is (Stuck cause n) = first_fault extents its (holds t) is ≡ Some cause

  pub goes_cause : (t : State) (is : List Instance) (o : Outcome) → Goes t is o → cause_of o ≡ first_fault extents its (holds t) is
  unfolding Goes
  goes_cause t is (Ended t') g = sym g.0
  goes_cause t is (Stuck cause n) g = sym g

  fault_append : (has : Holding) (is js : List Instance) → first_fault extents its has (is ++ js) ≡ or_else (first_fault extents its has is) (first_fault extents its (after has is) js)
  fault_append has [] js = refl
  fault_append has (b ∷ is) js =
      ap (or_else (fault_of extents has b (its b))) (fault_append (with_stored extents (its b).stores has) is js)
      ∙ sym (or_assoc (fault_of extents has b (its b)) (first_fault extents its (with_stored extents (its b).stores has) is) (first_fault extents its (after (with_stored extents (its b).stores has) is) js))

  after_append : (has : Holding) (is js : List Instance) → after has (is ++ js) ≡ after (after has is) js
  after_append has [] js = refl
  after_append has (b ∷ is) js = after_append (with_stored extents (its b).stores has) is js

  pub goes_nothing : (t : State) → Goes t [] (Ended t)
  unfolding Goes
  goes_nothing t = (refl, refl)

  goes_on : (t t' : State) (is js : List Instance) (o : Outcome) → first_fault extents its (holds t) is ≡ None → holds t' ≡ after (holds t) is → Goes t' js o → Goes t (is ++ js) o
  unfolding Goes
  goes_on t t' is js (Ended u) e h g = (
    fault_append (holds t) is js ∙ ap (λ o. or_else o (first_fault extents its (after (holds t) is) js)) e ∙ ap (λ k. first_fault extents its k js) (sym h) ∙ g.0,
    g.1 ∙ ap (λ k. after k js) h ∙ sym (after_append (holds t) is js),
  )
  goes_on t t' is js (Stuck cause n) e h g =
      fault_append (holds t) is js ∙ ap (λ o. or_else o (first_fault extents its (after (holds t) is) js)) e ∙ ap (λ k. first_fault extents its k js) (sym h) ∙ g

  pub goes_then : (t : State) (is js : List Instance) (o : Outcome) (f : State → Outcome) → Goes t is o → ((t' : State) → Goes t' js (f t')) → Goes t (is ++ js) (then_do o f)
  unfolding Goes
  goes_then t is js (Ended t') f g h = goes_on t t' is js (f t') g.0 g.1 (h t')
  goes_then t is js (Stuck cause n) f g h = fault_append (holds t) is js ∙ ap (λ o. or_else o (first_fault extents its (after (holds t) is) js)) g

  pub goes_reading : {A : Type 0} (r : Result A Cause) (x : A) (t u : State) (is : List Instance) (f : A → Outcome) → r ≡ Ok x → Goes t is (f x) → Goes t is (reading r u f)
  goes_reading r x t u is f e g = subst (λ q. Goes t is (reading q u f)) (sym e) g

  pub goes_if : (b : Bool) (t : State) (is js : List Instance) (o u : Outcome) → (b ≡ true → Goes t is o) → (b ≡ false → Goes t js u) → Goes t (if b then is else js) (if b then o else u)
  goes_if true t is js o u h g = h refl
  goes_if false t is js o u h g = g refl

  goes_begun : (t : State) (is : List Instance) (o : Outcome) → Goes (begun t) is o → Goes t is o
  unfolding Goes
  goes_begun t is (Ended t') g = g
  goes_begun t is (Stuck cause n) g = g

  pub goes_turns : (count node : ℕ) (x : ℤ) (body : ℤ → State → Outcome) (f : ℤ → List Instance) (t : State)
      → ((y : ℤ) → IsIn y (count_from count x) → is_int64 (y +ℤ pos 1) ≡ true) → ((y : ℤ) (u : State) → IsIn y (count_from count x) → Goes u (f y) (body y u))
      → Goes t (flat_map f (count_from count x)) (turns node count x body t)
  goes_turns zero node x body f t s h = goes_nothing t
  goes_turns (suc n) node x body f t s h =
      goes_then t (f x) (flat_map f (count_from n (x +ℤ pos 1))) (body x (begun t)) _ (goes_begun t (f x) (body x (begun t)) (h x (begun t) (inl refl))) (λ t'.
      goes_reading (in_int64 node (x +ℤ pos 1)) (x +ℤ pos 1) t' t' (flat_map f (count_from n (x +ℤ pos 1))) _ (int64_ok node (x +ℤ pos 1) (s x (inl refl)))
      (goes_turns n node (x +ℤ pos 1) body f t' (λ y i. s y (inr i)) (λ y u i. h y u (inr i))))

  -- ---- an assignment

  some_cases : (b : Bool) (v : ℕ) (o : Option ℕ) → is_some (cond b (Some v) o) ≡ (b || is_some o)
  some_cases true v o = refl
  some_cases false v o = refl

  held_after : (t : State) (x : Element) (v : ℕ) → holds (write x v (begun t)) ≡ with_stored extents x (holds t)
  held_after t x v = λ i y. (ap is_some (find-put element_cmp element_cmp_total y x v t.store) ∙ some_cases (eq_by_cmp element_cmp y x) v (at t.store y)) i

  pub goes_assign : (t : State) (b : Instance) (r : Result (Element × ℕ) Cause) → Says (fault_of extents (holds t) b (its b)) r → ((stored : Element × ℕ) → r ≡ Ok stored → stored.0 ≡ (its b).stores)
      → Goes t (b ∷ []) (reading r (begun t) (λ stored. Ended (write stored.0 stored.1 (begun t))))
  unfolding Goes Says
  goes_assign t b (Ok stored) s h = (
    or_none (fault_of extents (holds t) b (its b)) ∙ s,
    held_after t stored.0 stored.1 ∙ ap (λ x. with_stored extents x (holds t)) (h stored refl),
  )
  goes_assign t b (Err cause) s h = or_none (fault_of extents (holds t) b (its b)) ∙ s

-- Enumeration finds whether a program is safe.
use Rattle.std.proofs.Common.{◌≡◌, ◌↔◌, ◌<◌, ◌≤◌, ℤ, pos, Bool, true, false, true≢false, int_le, IsTrue, List, [], ◌∷◌, length, get_or, Option, Some, None, refl, sym, ap, ◌∙◌, inl, inr, arith}
use Rattle.std.specs.Prelude.{◌||◌, is_some, nat_lt}
use Rattle.std.specs.List.{list_all}
use Rattle.std.proofs.lemmas.Bool.{ltb-true, ltb-false}
use Rattle.affc_ast.specs.declared.tree.Decl.{Decl}
use Rattle.affc_ast.specs.declared.tree.Instance.{Instance}
use Rattle.affc_ast.specs.declared.tree.Program.{Program}
use Rattle.affc_ast.specs.Fits.{whole}
use Rattle.affc_ast.specs.Meaning.{arrays_of}
use Rattle.affc_ast.specs.Store.{Element}
use Rattle.affc_ast.specs.Trace.{trace, events, loads_of, store_of}
use Rattle.affc_ast.specs.Values.{is_within}
use Rattle.affc_trace.specs.Law.{IsIn}
use Rattle.affc_trace.specs.Orders.{Touches}
use Rattle.affc_trace.specs.Effects.{effect}
use Rattle.affc_trace.specs.Dataflow.{IsSource, source}
use Rattle.affc_trace.proofs.Found.{source_is_found}
use Rattle.affc_trace.proofs.Members.{both_hold, hold_both, to_first, to_second}
use Rattle.affc_trace.proofs.Once.{in_append}
use Rattle.affc_domain.specs.Arrays.{declared_arrays, extents_at}
use Rattle.affc_domain.proofs.Lists.{le_true, true_le}
use Rattle.affc_safe.specs.Laws.{ReasonsAreFound}
use Rattle.affc_safe.specs.Safe.{HasExtents, KeepsWithin, LoadsWritten, extents_hold, accesses_hold, loads_hold}

to_all : {A : Type 0} (f : A → Bool) (xs : List A) → ((x : A) → IsIn x xs → f x ≡ true) → list_all f xs ≡ true
to_all f [] h = refl
to_all f (x ∷ xs) h = hold_both (f x) (list_all f xs) (h x (inl refl)) (to_all f xs (λ y i. h y (inr i)))

pub from_all : {A : Type 0} (f : A → Bool) (xs : List A) → list_all f xs ≡ true → (x : A) → IsIn x xs → f x ≡ true
from_all f [] h x i = absurd i
from_all f (y ∷ xs) h x (inl e) = ap f e ∙ (both_hold (f y) (list_all f xs) h).0
from_all f (y ∷ xs) h x (inr i) = from_all f xs (both_hold (f y) (list_all f xs) h).1 x i

some_is : {A : Type 0} (o : Option A) → is_some o ≡ true → (a : A) × (o ≡ Some a)
some_is None e = absurd (true≢false (sym e))
some_is (Some a) e = (a, refl)

-- one of the two holds where the first fails
or_else : (a b : Bool) → (a ≡ false → b ≡ true) → (a || b) ≡ true
or_else true b h = refl
or_else false b h = h refl

second : (a b : Bool) → (a ≡ true → ⊥) → (a || b) ≡ true → b ≡ true
second true b n h = absurd (n refl)
second false b n h = h

module _ (program : Program) (p : List ℤ) where
  extents_found : HasExtents program p ↔ IsTrue (extents_hold program p)
  extents_found = (
    λ h. to_all (λ (d : Decl). list_all (λ e. int_le (pos 1) (whole e p)) d.extents) (declared_arrays program) (λ d i. to_all (λ e. int_le (pos 1) (whole e p)) d.extents (λ e j. le_true (pos 1) (whole e p) (h d e i j))),
    λ h d e i j. true_le (pos 1) (whole e p) (from_all (λ e. int_le (pos 1) (whole e p)) d.extents (from_all (λ (d : Decl). list_all (λ e. int_le (pos 1) (whole e p)) d.extents) (declared_arrays program) h d i) e j),
  )

  lies : Element → Bool
  lies x = is_within x.1 (get_or (extents_at (declared_arrays program) p) x.0 [])

  accesses_found : KeepsWithin program p ↔ IsTrue (accesses_hold program p)
  unfolding lies
  accesses_found = (
    λ h. to_all (λ b. list_all lies (events program p b)) (trace program p) (λ b i. to_all lies (events program p b) (λ x j. h b x i (touches b x j))),
    λ h b x i t. from_all lies (events program p b) (from_all (λ b. list_all lies (events program p b)) (trace program p) h b i) x (event b x t),
  )
    where
      touches : (b : Instance) (x : Element) → IsIn x (events program p b) → Touches (effect program p) b x
      touches b x j = elim (in_append (loads_of program p b) (store_of program p b ∷ []) x j) [
        | inl k ↦ inl k
        | inr k ↦ elim k [ inl e ↦ inr e | inr none ↦ absurd none ]
      ]

      event : (b : Instance) (x : Element) → Touches (effect program p) b x → IsIn x (events program p b)
      event b x (inl k) = to_first (loads_of program p b) (store_of program p b ∷ []) x k
      event b x (inr e) = to_second (loads_of program p b) (store_of program p b ∷ []) x (inl e)

  has_source : Instance → Element → Bool
  has_source b x = nat_lt x.0 (length (arrays_of program.params)) || is_some (source program p b x)

  loads_found : LoadsWritten program p ↔ IsTrue (loads_hold program p)
  unfolding has_source
  loads_found = (
    λ h. to_all (λ b. list_all (has_source b) (loads_of program p b)) (trace program p) (λ b i. to_all (has_source b) (loads_of program p b) (λ x j. there h b x i j)),
    λ h b x i j l. here b x i l (from_all (has_source b) (loads_of program p b) (from_all (λ b. list_all (has_source b) (loads_of program p b)) (trace program p) h b i) x j),
  )
    where
      there : LoadsWritten program p → (b : Instance) (x : Element) → IsIn b (trace program p) → IsIn x (loads_of program p b) → (nat_lt x.0 (length (arrays_of program.params)) || is_some (source program p b x)) ≡ true
      there h b x i j = or_else (nat_lt x.0 (length (arrays_of program.params))) (is_some (source program p b x)) (λ e.
          let w = h b x i j (ltb-false x.0 (length (arrays_of program.params)) e) in
          ap is_some ((source_is_found program p b x (Some w.0)).0 w.1).1)

      here : (b : Instance) (x : Element) → IsIn b (trace program p) → length (arrays_of program.params) ≤ x.0 → (nat_lt x.0 (length (arrays_of program.params)) || is_some (source program p b x)) ≡ true → (w : Instance) × IsSource program p b x (Some w)
      here b x i l h =
          let below : nat_lt x.0 (length (arrays_of program.params)) ≡ true → ⊥ = λ e. (let k : x.0 < length (arrays_of program.params) = ltb-true x.0 (length (arrays_of program.params)) e in absurd (omega arith)) in
          let w = some_is (source program p b x) (second (nat_lt x.0 (length (arrays_of program.params))) (is_some (source program p b x)) below h) in
          (w.0, (source_is_found program p b x (Some w.0)).1 (i, w.1))

pub reasons_are_found : ReasonsAreFound
reasons_are_found program p = (extents_found program p, accesses_found program p, loads_found program p)

-- What an instance touches are the elements of its assignment's accesses.
use Rattle.std.proofs.Common.{◌≡◌, ◌<◌, ℤ, List, [], ◌∷◌, ◌++◌, length, Option, Some, None, refl, sym, ap, subst, ◌∙◌, ◌⊎◌, inl, inr}
use Rattle.std.specs.Prelude.{slice_get}
use Rattle.affc_ast.specs.declared.tree.ArrayId.{ArrayId}
use Rattle.affc_ast.specs.declared.tree.Instance.{Instance}
use Rattle.affc_ast.specs.declared.tree.Ix.{Ix}
use Rattle.affc_ast.specs.declared.tree.Op.{Op}
use Rattle.affc_ast.specs.declared.tree.Program.{Program}
use Rattle.affc_ast.specs.declared.tree.Val.{Val}
use Rattle.affc_ast.specs.declared.tree.Val.TheVariants as v
use Rattle.affc_ast.specs.declared.tree.Val.TheBlock.{more_of-Val, end_of-Val}
use Rattle.affc_ast.specs.Meaning.{arrays_of}
use Rattle.affc_ast.specs.Store.{Element}
use Rattle.affc_ast.specs.Trace.{Assignment, assignments, loads_of_value, own_load, element, loaded_by, stored_by, trace}
use Rattle.affc_trace.specs.Law.{IsIn}
use Rattle.affc_trace.specs.Orders.{Touches}
use Rattle.affc_trace.specs.Effects.{effect}
use Rattle.affc_trace.proofs.LastStores.{append_nil}
use Rattle.affc_trace.proofs.Members.{to_first, to_second}
use Rattle.affc_trace.proofs.Once.{in_append}
use Rattle.affc_domain.specs.Accesses.{Access, accesses_in, own_access, accesses_of}
use Rattle.affc_domain.specs.Arrays.{declared_arrays}
use Rattle.affc_domain.proofs.PlainLemmas.{has_assignment}
use Rattle.affc_domain.proofs.TurnLemmas.{instances_turn}
use Rattle.affc_domain.proofs.Lists.{stands_in}
use Rattle.affc_safe.specs.Laws.{WithoutTemporariesSafe}
use Rattle.affc_safe.proofs.EndedSafe.{no_temporaries_are_written}

loaded : (e : Val) (names : List ℤ) (x : Element) → IsIn x (loads_of_value e names) → (a : Access) × IsIn a (accesses_in e) × (x ≡ element names a.0 a.1)
loaded (v.Load array subs) names x (inl i) = ((array, subs), inl refl, i)
loaded (v.Load array subs) names x (inr i) = absurd i
loaded (v.Const n) names x i = absurd i
loaded (v.Cast e) names x i = absurd i
loaded (v.Not' t (more_of-Val a end_of-Val)) names x i = loaded a names x i
loaded (v.Shift' left t (more_of-Val a end_of-Val) by) names x i = loaded a names x i
loaded (v.Bin' op t (more_of-Val a end_of-Val) t' (more_of-Val b end_of-Val)) names x i = elim (in_append (loads_of_value a names) (loads_of_value b names) x i) [
  | inl j ↦ let r = loaded a names x j in (r.0, to_first (accesses_in a) (accesses_in b) r.0 r.1, r.2)
  | inr j ↦ let r = loaded b names x j in (r.0, to_second (accesses_in a) (accesses_in b) r.0 r.1, r.2)
]

touched : (op : Option Op) (array : ArrayId) (subs : List Ix) (e : Val) (names : List ℤ) (x : Element)
    → IsIn x (own_load op (element names array subs) ++ loads_of_value e names) ⊎ (x ≡ element names array subs)
    → (a : Access) × IsIn a (own_access op (array, subs) ++ (accesses_in e ++ (array, subs) ∷ [])) × (x ≡ element names a.0 a.1)
touched op array subs e names x (inr i) = ((array, subs), to_second (own_access op (array, subs)) _ (array, subs) (to_second (accesses_in e) ((array, subs) ∷ []) (array, subs) (inl refl)), i)
touched None array subs e names x (inl i) = let r = loaded e names x i in (r.0, to_first (accesses_in e) ((array, subs) ∷ []) r.0 r.1, r.2)
touched (Some op) array subs e names x (inl (inl i)) = ((array, subs), inl refl, i)
touched (Some op) array subs e names x (inl (inr i)) = let r = loaded e names x i in (r.0, inr (to_first (accesses_in e) ((array, subs) ∷ []) r.0 r.1), r.2)

-- an element that an instance touches, the access and its assignment
pub record Accessed (program : Program) (p : List ℤ) (b : Instance) (x : Element) : Type 0 where
  pub assignment : Assignment
  pub its_assignment : slice_get (assignments program) b.statement ≡ Some assignment
  pub access : Access
  pub is_access : IsIn access (accesses_of assignment)
  pub is_element : x ≡ element (p ++ b.iterators) access.0 access.1

pub touches_are_accesses : (program : Program) (p : List ℤ) (b : Instance) (x : Element) → IsIn b (trace program p) → Touches (effect program p) b x → Accessed program p b x
touches_are_accesses program p b x i t =
    let turn = (instances_turn program p b).0 i in
    let a = has_assignment program b.statement turn.0 turn.1 in
    let names : List ℤ = p ++ b.iterators in
    let here : IsIn x (loaded_by (Some a.0) names) ⊎ (x ≡ stored_by (Some a.0) names) = subst (λ o. IsIn x (loaded_by o names) ⊎ (x ≡ stored_by o names)) a.1 t in
    let r = touched a.0.op a.0.array a.0.subs a.0.value names x here in
    record { assignment = a.0; its_assignment = a.1; access = r.0; is_access = r.1; is_element = r.2 }

pub without_temporaries_safe : WithoutTemporariesSafe
without_temporaries_safe program p none declared least within = no_temporaries_are_written program p none least within (λ b x i l bare.
    let r = touches_are_accesses program p b x i (inl l) in
    let below : r.access.0.0 < length (declared_arrays program) = declared r.assignment r.access (stands_in (assignments program) b.statement r.assignment r.its_assignment) r.is_access in
    let all : declared_arrays program ≡ arrays_of program.params = ap (λ ds. arrays_of program.params ++ ds) none ∙ append_nil (arrays_of program.params) in
    subst (λ (y : Element). y.0 < length (arrays_of program.params)) (sym r.is_element) (subst (λ ds. r.access.0.0 < length ds) all below))

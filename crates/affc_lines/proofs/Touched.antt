-- The arrays of a statement's accesses are those of its instances' events.
use Rattle.std.proofs.Common.{◌≡◌, ℕ, zero, suc, ℤ, List, [], ◌∷◌, ◌++◌, map, get_or, slice_get, option_map, unwrap_or, Option, None, Some, refl, sym, ap, ap₂, ◌∙◌}
use Rattle.std.proofs.lemmas.List.{map-append}
use Rattle.std.proofs.lemmas.Option.{slice_get-map, unwrap_or-slice_get}
use Rattle.affc_ast.specs.declared.tree.ArrayId.{ArrayId}
use Rattle.affc_ast.specs.declared.tree.Instance.{Instance}
use Rattle.affc_ast.specs.declared.tree.Ix.{Ix}
use Rattle.affc_ast.specs.declared.tree.Op.{Op}
use Rattle.affc_ast.specs.declared.tree.Program.{Program}
use Rattle.affc_ast.specs.declared.tree.Val.{Val}
use Rattle.affc_ast.specs.declared.tree.Val.TheVariants as v
use Rattle.affc_ast.specs.declared.tree.Val.TheBlock.{more_of-Val, end_of-Val}
use Rattle.affc_ast.specs.Store.{Element}
use Rattle.affc_ast.specs.Trace.{Assignment, assignments, element, events, loads_of_value, loaded_by, own_load, stored_by}
use Rattle.affc_lines.specs.Stuck.{array_of, arrays_accessed, arrays_loaded, own_array}

abbrev arrays : List Element → List ℕ
arrays elements = map (λ (e : Element). e.0) elements

loaded : (e : Val) (names : List ℤ) → arrays (loads_of_value e names) ≡ arrays_loaded e
loaded (v.Load array subs) names = refl
loaded (v.Const n) names = refl
loaded (v.Cast e) names = refl
loaded (v.Not' s (more_of-Val a end_of-Val)) names = loaded a names
loaded (v.Bin' op s (more_of-Val a end_of-Val) t (more_of-Val b end_of-Val)) names =
    map-append (λ (e : Element). e.0) (loads_of_value a names) (loads_of_value b names) ∙ ap₂ (λ (x y : List ℕ). x ++ y) (loaded a names) (loaded b names)
loaded (v.Shift' left s (more_of-Val a end_of-Val) by) names = loaded a names

own : (op : Option Op) (names : List ℤ) (array : ArrayId) (subs : List Ix) → arrays (own_load op (element names array subs)) ≡ own_array op array.0
own None names array subs = refl
own (Some op) names array subs = refl

accessed : (a : Assignment) (names : List ℤ) → arrays (loaded_by (Some a) names ++ stored_by (Some a) names ∷ []) ≡ arrays_accessed a
accessed a names =
    map-append (λ (e : Element). e.0) (loaded_by (Some a) names) (stored_by (Some a) names ∷ [])
    ∙ ap (λ l. l ++ a.array.0 ∷ []) (map-append (λ (e : Element). e.0) (own_load a.op (element names a.array a.subs)) (loads_of_value a.value names)
    ∙ ap₂ (λ (x y : List ℕ). x ++ y) (own a.op names a.array a.subs) (loaded a.value names))

none_at : (access : ℕ) → get_or {A = ℕ} [] access 0 ≡ get_or (0 ∷ []) access 0
none_at zero = refl
none_at (suc access) = refl

of_assignment : (o : Option Assignment) (names : List ℤ) (access : ℕ)
    → get_or (unwrap_or (option_map arrays_accessed o) []) access 0 ≡ get_or (arrays (loaded_by o names ++ stored_by o names ∷ [])) access 0
of_assignment None names access = none_at access
of_assignment (Some a) names access = ap (λ l. get_or l access 0) (sym (accessed a names))

-- what stands under a number in a list that is made of another
made_at : (xs : List Assignment) (i : ℕ) → get_or (map arrays_accessed xs) i [] ≡ unwrap_or (option_map arrays_accessed (slice_get xs i)) []
made_at xs i = sym (unwrap_or-slice_get (map arrays_accessed xs) i []) ∙ ap (λ o. unwrap_or o []) (slice_get-map arrays_accessed xs i)

pub array_touched : (program : Program) (p : List ℤ) (here : Instance) (access : ℕ)
    → array_of program here.statement access ≡ get_or (arrays (events program p here)) access 0
array_touched program p here access =
    ap (λ l. get_or l access 0) (made_at (assignments program) here.statement)
    ∙ of_assignment (slice_get (assignments program) here.statement) (p ++ here.iterators) access

-- The fold of an array is found in a list of folds of different arrays.
use Rattle.std.proofs.Common.{◌≡◌, ℕ, Bool, true, false, if◌then◌else◌, List, [], ◌∷◌, map, Some, refl, sym, ap, subst, ◌∙◌, inl, inr}
use Rattle.std.specs.Prelude.{nat_eq}
use Rattle.std.proofs.lemmas.Bool.{eqb-true, eq-eqb}
use Rattle.std.proofs.lemmas.Option.{same_Some, none-some}
use Rattle.affc_ast.specs.declared.tree.ArrayId.{ArrayId}
use Rattle.affc_trace.specs.Law.{IsIn}
use Rattle.affc_trace.specs.Orders.{AreDistinct}
use Rattle.affc_trace.proofs.Members.{to_map}
use Rattle.affc_basis.specs.declared.fold.Fold.{Fold}
use Rattle.affc_basis.specs.Folds.{fold_of}
use Rattle.affc_basis.specs.Laws.{FoldsAreFound}

abbrev number_of : ArrayId × Fold → ℕ
number_of f = f.0.0

found : (folds : List (ArrayId × Fold)) (array : ℕ) (fold : Fold) → fold_of folds array ≡ Some fold → (a : ArrayId) × (a.0 ≡ array) × IsIn (a, fold) folds
found [] array fold e = absurd (none-some fold e)
found (f ∷ folds) array fold e = by_test (nat_eq f.0.0 array) refl e (found folds array fold)
  where
    by_test : (t : Bool) → nat_eq f.0.0 array ≡ t → (if t then Some f.1 else fold_of folds array) ≡ Some fold
        → (fold_of folds array ≡ Some fold → (a : ArrayId) × (a.0 ≡ array) × IsIn (a, fold) folds) → (a : ArrayId) × (a.0 ≡ array) × IsIn (a, fold) (f ∷ folds)
    by_test true t e rest = (f.0, eqb-true f.0.0 array t, inl (ap (λ g. (f.0, g)) (sym (same_Some f.1 fold e))))
    by_test false t e rest = let r = rest e in (r.0, r.1, inr r.2)

listed : (folds : List (ArrayId × Fold)) (array : ArrayId) (fold : Fold) → AreDistinct (map number_of folds) → IsIn (array, fold) folds → fold_of folds array.0 ≡ Some fold
listed [] array fold d i = absurd i
listed (f ∷ folds) array fold d (inl e) =
    ap (λ t. if t then Some f.1 else fold_of folds array.0) (eq-eqb f.0.0 array.0 (sym (ap number_of e))) ∙ sym (ap (λ g. Some g.1) e)
listed (f ∷ folds) array fold d (inr i) = by_test (nat_eq f.0.0 array.0) refl (listed folds array fold d.1 i)
  where
    by_test : (t : Bool) → nat_eq f.0.0 array.0 ≡ t → fold_of folds array.0 ≡ Some fold → (if t then Some f.1 else fold_of folds array.0) ≡ Some fold
    by_test true t e = absurd (d.0 (subst (λ n. IsIn n (map number_of folds)) (sym (eqb-true f.0.0 array.0 t)) (to_map number_of folds (array, fold) i)))
    by_test false t e = e

pub folds_are_found : FoldsAreFound
folds_are_found program folds array fold are = (
  found folds array fold,
  λ r. subst (λ n. fold_of folds n ≡ Some fold) r.1 (listed folds r.0 fold are.different r.2),
)

-- A fold that leaves its array whole leaves each element where it is.
use Rattle.std.proofs.Common.{◌≡◌, ℕ, suc, ◌+◌, ℤ, pos, ◌≤ℤ◌, ◌<ℤ◌, Bool, true, false, true≢false, ◌&&◌, int_le, int_lt, if◌then◌else◌, List, [], ◌∷◌, ◌++◌, length, get_or, map, Option, Some, None, refl, sym, ap, ap₂, subst, ◌∙◌, arith}
use Rattle.std.specs.Prelude.{slice_get}
use Rattle.std.specs.Cmp.Lexicographic.{pointwise}
use Rattle.std.specs.Int.{int_rem_euclid}
use Rattle.std.proofs.lemmas.Option.{none-some}
use Rattle.affc_rows.specs.Forms.{Affine, dot, value}
use Rattle.affc_ast.specs.declared.tree.ArrayId.{ArrayId}
use Rattle.affc_ast.specs.Values.{is_within}
use Rattle.affc_trace.proofs.LastStores.{push_append}
use Rattle.affc_trace.proofs.Runs.{length_append}
use Rattle.affc_domain.proofs.Lists.{both_true, true_le, true_lt, at_seam}
use Rattle.affc_basis.specs.declared.fold.Fold.{Fold}
use Rattle.affc_basis.specs.Folds.{forms_of, fold_of}
use Rattle.affc_basis.specs.Moduli.{remainders}
use Rattle.affc_foldloops.specs.Refolds.{extents_by}
use Rattle.affc_rewrite.specs.Rewrite.{same_form, is_unit, are_units, is_whole, unless_whole, at_work}
use Rattle.affc_rewrite.specs.Sizes.{IsRow}
use Rattle.affc_rewrite.proofs.PrintedForms.{no_more}
use Rattle.affc_rewrite.proofs.Tests.{unit_value, same_value, own_remainder}

-- ---- A fold that is at work

pub is_at_work : (extents : List Affine) (o : Option Fold) (fold : Fold) → unless_whole extents o ≡ Some fold → o ≡ Some fold
is_at_work extents None fold e = e
is_at_work extents (Some own) fold e = by (is_whole extents own) e
  where
    by : (t : Bool) → (if t then None else Some own) ≡ Some fold → Some own ≡ Some fold
    by true e = absurd (none-some fold e)
    by false e = e

-- it is the array's own
pub works : (extents : List (List Affine)) (folds : List (ArrayId × Fold)) (array : ℕ) (fold : Fold) → at_work extents folds array ≡ Some fold → fold_of folds array ≡ Some fold
works extents folds array fold e = is_at_work (get_or extents array []) (fold_of folds array) fold e

-- ---- Its component

-- the element's own coordinate, where the row is the unit row and the modulus the extent
pub own_component : (k : ℕ) (row b extent : Affine) (p x : List ℤ) (z : ℤ) → length row.coefs ≡ length x → row.constant ≡ pos 0 → is_unit k row ≡ true → same_form b extent ≡ true
    → get_or x k (pos 0) ≡ z → pos 0 ≤ℤ z → z <ℤ value extent p → int_rem_euclid (dot row.coefs x) (value b p) ≡ z
own_component k row b extent p x z wide none unit same there low high =
    let along : dot row.coefs x ≡ z = sym (no_more (dot row.coefs x) row.constant none) ∙ unit_value k row x wide unit ∙ there in
    let less : z <ℤ value b p = subst (λ n. z <ℤ n) (sym (same_value b extent p same)) high in
    ap (λ y. int_rem_euclid y (value b p)) along ∙ own_remainder z (value b p) low less

-- ---- Its places

-- from the k-th coordinate on; those before it are these
whole_place : (p x : List ℤ) (k : ℕ) (rows moduli extents : List Affine) (before own : List ℤ) → k ≡ length before → before ++ own ≡ x → length rows ≡ length own
    → ((j : ℕ) (row : Affine) → slice_get rows j ≡ Some row → IsRow (length x) row) → pointwise same_form moduli extents ≡ true → are_units k rows ≡ true
    → is_within own (map (λ f. value f p) extents) ≡ true → remainders p rows moduli x ≡ own
whole_place p x k [] moduli extents before [] h e l rows_are same units inside = refl
whole_place p x k [] moduli extents before (z ∷ own) h e l rows_are same units inside = absurd (omega (arith, l))
whole_place p x k (row ∷ rows) moduli extents before [] h e l rows_are same units inside = absurd (omega (arith, l))
whole_place p x k (row ∷ rows) [] [] before (z ∷ own) h e l rows_are same units inside = absurd (true≢false (sym inside))
whole_place p x k (row ∷ rows) [] (extent ∷ extents) before (z ∷ own) h e l rows_are same units inside = absurd (true≢false (sym same))
whole_place p x k (row ∷ rows) (b ∷ moduli) [] before (z ∷ own) h e l rows_are same units inside = absurd (true≢false (sym same))
whole_place p x k (row ∷ rows) (b ∷ moduli) (extent ∷ extents) before (z ∷ own) h e l rows_are same units inside =
    let s = both_true (same_form b extent) (pointwise same_form moduli extents) same in
    let u = both_true (is_unit k row) _ units in
    let t = both_true (int_le (pos 0) z && int_lt z (value extent p)) (is_within own (map (λ f. value f p) extents)) inside in
    let ends = both_true (int_le (pos 0) z) (int_lt z (value extent p)) t.0 in
    let is = rows_are 0 row refl in
    let there : get_or x k (pos 0) ≡ z = ap (λ xs. get_or xs k (pos 0)) (sym e) ∙ ap (λ j. get_or (before ++ z ∷ own) j (pos 0)) h ∙ at_seam before z own in
    let pushed : length (before ++ z ∷ []) ≡ length before + 1 = length_append before (z ∷ []) in
    ap₂ (λ y ys. y ∷ ys) (own_component k row b extent p x z is.columns is.no_constant u.0 s.0 there (true_le (pos 0) z ends.0) (true_lt z (value extent p) ends.1))
    (whole_place p x (k + 1) rows moduli extents (before ++ z ∷ []) own (omega (arith, h, pushed)) (push_append before z own ∙ e) (omega (arith, l)) (λ j r q. rows_are (suc j) r q) s.1 u.1 t.1)

-- an element of a whole array is its own place
pub own_place : (p x : List ℤ) (extents : List Affine) (fold : Fold) → ((j : ℕ) (row : Affine) → slice_get fold.basis.rows j ≡ Some row → IsRow (length x) row) → length fold.basis.rows ≡ length x
    → is_whole extents fold ≡ true → is_within x (map (λ f. value f p) extents) ≡ true → x ≡ remainders p fold.basis.rows (forms_of fold.moduli) x
own_place p x extents fold rows long is inside =
    let w = both_true (pointwise same_form (forms_of fold.moduli) extents) (are_units 0 fold.basis.rows) is in
    sym (whole_place p x 0 fold.basis.rows (forms_of fold.moduli) extents [] x refl refl long rows w.0 w.1 inside)

-- ---- Its extents

same_values : (p : List ℤ) (moduli extents : List Affine) → pointwise same_form moduli extents ≡ true → map (λ f. value f p) moduli ≡ map (λ f. value f p) extents
same_values p [] [] h = refl
same_values p [] (extent ∷ extents) h = absurd (true≢false (sym h))
same_values p (b ∷ moduli) [] h = absurd (true≢false (sym h))
same_values p (b ∷ moduli) (extent ∷ extents) h =
    let s = both_true (same_form b extent) (pointwise same_form moduli extents) h in
    ap₂ (λ y ys. y ∷ ys) (same_value b extent p s.0) (same_values p moduli extents s.1)

-- a whole array's moduli are its extents
pub own_extents : (p : List ℤ) (extents : List Affine) (o : Option Fold) (own : List ℤ) → own ≡ map (λ f. value f p) extents → extents_by (unless_whole extents o) p own ≡ extents_by o p own
own_extents p extents None own e = refl
own_extents p extents (Some fold) own e = by (is_whole extents fold) refl
  where
    by : (t : Bool) → is_whole extents fold ≡ t → extents_by (if t then None else Some fold) p own ≡ map (λ b. value b p) (forms_of fold.moduli)
    by true w = e ∙ sym (same_values p (forms_of fold.moduli) extents (both_true (pointwise same_form (forms_of fold.moduli) extents) (are_units 0 fold.basis.rows) w).0)
    by false w = refl

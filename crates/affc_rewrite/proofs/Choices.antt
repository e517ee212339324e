-- Which subscripts a fold gives.
use Rattle.std.proofs.Common.{◌≡◌, ℕ, Bool, true, false, if◌then◌else◌, List, [], ◌∷◌, length, map, Some, refl, sym, ap, ◌∙◌}
use Rattle.std.specs.Prelude.{nat_eq}
use Rattle.std.proofs.lemmas.Bool.{eqb-true, eq-eqb}
use Rattle.affc_rows.specs.Forms.{Affine}
use Rattle.affc_ast.specs.declared.tree.Ix.{Ix}
use Rattle.affc_domain.specs.Affine.{form_of}
use Rattle.affc_basis.specs.declared.fold.Fold.{Fold}
use Rattle.affc_basis.specs.Folds.{forms_of}
use Rattle.affc_rewrite.specs.Rewrite.{components_from, subscripts_by}

pub rows_used : (fold : Fold) (parameters names : ℕ) (extents : List Affine) (subs : List Ix) → length subs ≡ length fold.basis.rows
    → components_from parameters (map (form_of names 0) subs) 0 fold.basis.rows (forms_of fold.moduli) extents subs ≡ subscripts_by (Some fold) parameters names extents subs
rows_used fold parameters names extents subs e =
    let components : List Ix = components_from parameters (map (form_of names 0) subs) 0 fold.basis.rows (forms_of fold.moduli) extents subs in
    sym (ap (λ t. if t then components else subs) (eq-eqb (length subs) (length fold.basis.rows) e))

pub own_kept : (fold : Fold) (parameters names : ℕ) (extents : List Affine) (subs : List Ix) → ¬ (length subs ≡ length fold.basis.rows) → subs ≡ subscripts_by (Some fold) parameters names extents subs
own_kept fold parameters names extents subs h = by_test (nat_eq (length subs) (length fold.basis.rows)) refl
  where
    by_test : (t : Bool) → nat_eq (length subs) (length fold.basis.rows) ≡ t
        → subs ≡ (if t then components_from parameters (map (form_of names 0) subs) 0 fold.basis.rows (forms_of fold.moduli) extents subs else subs)
    by_test true e = absurd (h (eqb-true (length subs) (length fold.basis.rows) e))
    by_test false e = refl

-- of no subscripts none
pub none_used : (fold : Fold) (parameters names : ℕ) (extents : List Affine) (subs : List Ix) → subs ≡ [] → [] ≡ subscripts_by (Some fold) parameters names extents subs
none_used fold parameters names extents subs e = by_test (nat_eq 0 (length fold.basis.rows)) refl ∙ ap (subscripts_by (Some fold) parameters names extents) (sym e)
  where
    no_components : (k : ℕ) (rows moduli extents : List Affine) → [] ≡ components_from parameters [] k rows moduli extents []
    no_components k [] moduli extents = refl
    no_components k (row ∷ rows) [] extents = refl
    no_components k (row ∷ rows) (b ∷ moduli) [] = refl
    no_components k (row ∷ rows) (b ∷ moduli) (extent ∷ extents) = refl

    by_test : (t : Bool) → nat_eq 0 (length fold.basis.rows) ≡ t → [] ≡ (if t then components_from parameters [] 0 fold.basis.rows (forms_of fold.moduli) extents [] else [])
    by_test true f = no_components 0 fold.basis.rows (forms_of fold.moduli) extents
    by_test false f = refl

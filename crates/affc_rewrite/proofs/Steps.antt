-- Lists that are made by adding one entry after the other.
use Rattle.std.proofs.Common.{◌≡◌, ℕ, suc, ◌+◌, List, [], ◌∷◌, ◌++◌, map, ap, ◌∙◌, arith}
use Rattle.affc_rows.specs.Forms.{Affine}
use Rattle.affc_ast.specs.declared.tree.ArrayId.{ArrayId}
use Rattle.affc_ast.specs.declared.tree.Decl.{Decl}
use Rattle.affc_ast.specs.declared.tree.Ix.{Ix}
use Rattle.affc_trace.proofs.EndedReads.{append_assoc}
use Rattle.affc_domain.specs.Affine.{form_of}
use Rattle.affc_basis.specs.declared.fold.Fold.{Fold}
use Rattle.affc_rewrite.specs.Rewrite.{printed, component, components_from, at_work, decl_by, decls_from}

pub one_more_form : (made : List Affine) (e : Ix) (es : List Ix) (names : ℕ) → (made ++ form_of names 0 e ∷ []) ++ map (form_of names 0) es ≡ made ++ map (form_of names 0) (e ∷ es)
one_more_form made e es names = append_assoc made (form_of names 0 e ∷ []) (map (form_of names 0) es)

pub one_more_component : (made : List Ix) (parameters : ℕ) (forms : List Affine) (k next : ℕ) (row b extent : Affine) (rows moduli extents : List Affine) (e : Ix) (own : List Ix) → next ≡ k + 1
    → (made ++ component parameters forms k row b extent e ∷ []) ++ components_from parameters forms next rows moduli extents own
    ≡ made ++ components_from parameters forms k (row ∷ rows) (b ∷ moduli) (extent ∷ extents) (e ∷ own)
one_more_component made parameters forms k next row b extent rows moduli extents e own l =
    let n : next ≡ suc k = omega arith in
    let c : Ix = component parameters forms k row b extent e in
    ap (λ m. (made ++ c ∷ []) ++ components_from parameters forms m rows moduli extents own) n ∙ append_assoc made (c ∷ []) (components_from parameters forms (suc k) rows moduli extents own)

pub one_more_modulus : (made : List Ix) (parameters : ℕ) (b : Affine) (bs : List Affine) → (made ++ printed parameters b ∷ []) ++ map (printed parameters) bs ≡ made ++ map (printed parameters) (b ∷ bs)
one_more_modulus made parameters b bs = append_assoc made (printed parameters b ∷ []) (map (printed parameters) bs)

pub one_more_decl : (made : List Decl) (parameters : ℕ) (extents : List (List Affine)) (folds : List (ArrayId × Fold)) (array next : ℕ) (d : Decl) (ds : List Decl) → next ≡ array + 1
    → (made ++ decl_by (at_work extents folds array) parameters d ∷ []) ++ decls_from parameters extents folds next ds ≡ made ++ decls_from parameters extents folds array (d ∷ ds)
one_more_decl made parameters extents folds array next d ds l =
    let n : next ≡ suc array = omega arith in
    let c : Decl = decl_by (at_work extents folds array) parameters d in
    ap (λ m. (made ++ c ∷ []) ++ decls_from parameters extents folds m ds) n ∙ append_assoc made (c ∷ []) (decls_from parameters extents folds (suc array) ds)

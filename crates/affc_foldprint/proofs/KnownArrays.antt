-- With folds an access has as many subscripts as its array has dimensions.
use Rattle.std.proofs.Common.{◌≡◌, ◌⊎◌, inl, inr, ℕ, zero, suc, ◌+◌, ◌<◌, Bool, true, not, ◌&&◌, if◌then◌else◌, List, [], ◌∷◌, ◌++◌, length, get_or, map, Option, Some, None, refl, sym, ap, subst, ◌∙◌, arith}
use Rattle.std.specs.Prelude.{slice_get, option_map, ◌==◌}
use Rattle.std.proofs.lemmas.Bool.{and_parts, and_from, false≢true, eqb-true, eq-eqb}
use Rattle.std.proofs.lemmas.Option.{none-some, same_Some}
use Rattle.affc_rows.specs.Forms.{Affine}
use Rattle.affc_ast.specs.declared.tree.ArrayId.{ArrayId}
use Rattle.affc_ast.specs.declared.tree.Decl.{Decl}
use Rattle.affc_ast.specs.declared.tree.Ix.{Ix}
use Rattle.affc_ast.specs.declared.tree.Param.{Param}
use Rattle.affc_ast.specs.declared.tree.Param.TheVariants.{Number, Array}
use Rattle.affc_ast.specs.declared.tree.Program.{Program}
use Rattle.affc_ast.specs.Meaning.{arrays_of}
use Rattle.affc_trace.specs.Target.{numbers_in}
use Rattle.affc_domain.specs.Affine.{form_of}
use Rattle.affc_domain.proofs.Lists.{length_map}
use Rattle.affc_grammar.specs.Names.{is_input}
use Rattle.affc_wellnamed.specs.Known.{takes, param_arrays}
use Rattle.affc_basis.specs.declared.fold.Fold.{Fold}
use Rattle.affc_basis.specs.FoldLists.{AreFoldsIn}
use Rattle.affc_basis.specs.Folds.{forms_of}
use Rattle.affc_foldloops.specs.Refolds.{Subscripts}
use Rattle.affc_foldloops.proofs.ReplaceLemmas.{fold_in}
use Rattle.affc_rewrite.specs.Rewrite.{printed, components_from, at_work, subscripts_by, extent_forms, fold_at_work, folded_subscripts, decl_by, decls_from, folded_temps}
use Rattle.affc_rewrite.proofs.WholeFolds.{works}
use Rattle.affc_foldprint.proofs.Components.{components_long}

-- where an entry of two lists stands
record Split (ds es fs : List Decl) (i : ℕ) : Type 0 where
  at : ℕ
  place : i ≡ length ds + at
  first : slice_get (ds ++ es) i ≡ slice_get es at
  second : slice_get (ds ++ fs) i ≡ slice_get fs at

split : (ds es fs : List Decl) (i : ℕ) → ((i < length ds) × (slice_get (ds ++ es) i ≡ slice_get (ds ++ fs) i)) ⊎ Split ds es fs i
split [] es fs i = inr (record { at = i; place = omega arith; first = refl; second = refl })
split (d ∷ ds) es fs zero = inl (omega arith, refl)
split (d ∷ ds) es fs (suc i) = elim (split ds es fs i) [
  | inl h ↦ let l = h.0 in inl (omega (arith, l), h.1)
  | inr h ↦ let p = h.place in inr (record { at = h.at; place = omega (arith, p); first = h.first; second = h.second })
]

module _ (first : ℕ) (all : List (List Affine)) (folds : List (ArrayId × Fold)) where
  decl_at : (array : ℕ) (ds : List Decl) (j : ℕ) → slice_get (decls_from first all folds array ds) j ≡ option_map (decl_by (at_work all folds (array + j)) first) (slice_get ds j)
  decl_at array [] j = refl
  decl_at array (d ∷ ds) zero = let z : array ≡ array + 0 = omega arith in ap (λ n. Some (decl_by (at_work all folds n) first d)) z
  decl_at array (d ∷ ds) (suc j) =
      let z : suc array + j ≡ array + suc j = omega arith in decl_at (suc array) ds j ∙ ap (λ n. option_map (decl_by (at_work all folds n) first) (slice_get ds j)) z

abbrev pub forms_at : (first : ℕ) → List Decl → (i : ℕ) → List Affine
forms_at first ds i = get_or (map (λ (x : Decl). map (form_of first 0) x.extents) ds) i []

own_forms : (first : ℕ) (es : List Decl) (j : ℕ) (d : Decl) → slice_get es j ≡ Some d → forms_at first es j ≡ map (form_of first 0) d.extents
own_forms first [] j d e = absurd (none-some d e)
own_forms first (x ∷ es) zero d e = ap (λ (y : Decl). map (form_of first 0) y.extents) (same_Some x d e)
own_forms first (x ∷ es) (suc j) d e = own_forms first es j d e

pub form_at : (first : ℕ) (ds es : List Decl) (j i : ℕ) (d : Decl) → i ≡ length ds + j → slice_get es j ≡ Some d → forms_at first (ds ++ es) i ≡ map (form_of first 0) d.extents
form_at first [] es j i d p e = let q : i ≡ j = omega (arith, p) in ap (forms_at first es) q ∙ own_forms first es j d e
form_at first (x ∷ ds) es j zero d p e = absurd (omega (arith, p))
form_at first (x ∷ ds) es j (suc i) d p e = form_at first ds es j i d (omega (arith, p)) e

pub same_arrays : (ps : List Param) → param_arrays ps ≡ arrays_of ps
same_arrays [] = refl
same_arrays (Number name low high ∷ ps) = same_arrays ps
same_arrays (Array d ∷ ps) = ap (λ l. d ∷ l) (same_arrays ps)

module _ (source : Program) (folds : List (ArrayId × Fold)) (are : AreFoldsIn source folds) where
  abbrev fresh : Subscripts
  fresh = folded_subscripts source folds

  abbrev first : ℕ
  first = numbers_in source.params

  abbrev given : List Decl
  given = arrays_of source.params

  abbrev temps : List Decl
  temps = folded_temps source folds

  abbrev extents : ℕ → List Affine
  extents i = get_or (extent_forms source) i []

  -- a temporary
  temp_takes : (is_store : Bool) (n : ℕ) (subs : List Ix) (array at : ℕ) (d : Decl) → array ≡ length given + at → slice_get source.temps at ≡ Some d → takes is_store (length subs) (Some d) ≡ true
      → (o : Option Fold) → fold_at_work source folds array ≡ o → takes is_store (length (subscripts_by o first n (extents array) subs)) (Some (decl_by o first d)) ≡ true
  temp_takes is_store n subs array at d place stands h None e = h
  temp_takes is_store n subs array at d place stands h (Some fold) e =
      let f = fold_in source folds are array fold (works (extent_forms source) folds array fold e) in
      let behind = f.behind in
      let same_place : f.number ≡ at = omega (arith, behind, place) in
      let same : f.decl ≡ d = same_Some f.decl d (sym f.stands ∙ ap (slice_get source.temps) same_place ∙ stands) in
      let rows : length fold.basis.rows ≡ length d.extents = f.rows ∙ ap (λ (x : Decl). length x.extents) same in
      let p = and_parts (not (is_store && is_input d.role)) (length d.extents == length subs) h in
      let count : length d.extents ≡ length subs = eqb-true (length d.extents) (length subs) p.1 in
      let m = length fold.basis.rows in
      let moduli : length (forms_of fold.moduli) ≡ m = length_map (λ x. x.form) fold.moduli ∙ fold.one_each in
      let own : extents array ≡ map (form_of first 0) d.extents = form_at first given source.temps at array d place stands in
      let wide : length (extents array) ≡ m = ap length own ∙ length_map (form_of first 0) d.extents ∙ sym rows in
      let components = components_from first (map (form_of n 0) subs) 0 fold.basis.rows (forms_of fold.moduli) (extents array) subs in
      let long : length components ≡ m = components_long first m 0 (map (form_of n 0) subs) fold.basis.rows (forms_of fold.moduli) (extents array) subs refl moduli wide (sym count ∙ sym rows) in
      let new : length (map (printed first) (forms_of fold.moduli)) ≡ length components = length_map (printed first) (forms_of fold.moduli) ∙ moduli ∙ sym long in
      subst (λ t. takes is_store (length (if t then components else subs)) (Some (decl_by (Some fold) first d)) ≡ true) (sym (eq-eqb (length subs) (length fold.basis.rows) (sym count ∙ sym rows)))
      (and_from (not (is_store && is_input d.role)) _ p.0 (eq-eqb (length (map (printed first) (forms_of fold.moduli))) (length components) new))

  -- an array that is no temporary has no fold
  given_takes : (is_store : Bool) (n : ℕ) (subs : List Ix) (array : ℕ) (o' : Option Decl) → array < length given → takes is_store (length subs) o' ≡ true
      → (o : Option Fold) → fold_at_work source folds array ≡ o → takes is_store (length (subscripts_by o first n (extents array) subs)) o' ≡ true
  given_takes is_store n subs array o' l h None e = h
  given_takes is_store n subs array o' l h (Some fold) e = let f = (fold_in source folds are array fold (works (extent_forms source) folds array fold e)).behind in absurd (omega (arith, l, f))

  no_decl : (b : Bool) (k : ℕ) {A : Type 0} → takes b k None ≡ true → A
  no_decl b k h = absurd (false≢true h)

  pub fold_takes : (is_store : Bool) (n : ℕ) (array : ArrayId) (subs : List Ix) → takes is_store (length subs) (slice_get (given ++ source.temps) array.0) ≡ true
      → takes is_store (length (fresh n array subs)) (slice_get (given ++ temps) array.0) ≡ true
  fold_takes is_store n array subs h = elim (split given source.temps temps array.0) [
    | inl q ↦
        given_takes is_store n subs array.0 (slice_get (given ++ temps) array.0) q.0 (ap (takes is_store (length subs)) (sym q.1) ∙ h) (fold_at_work source folds array.0) refl
    | inr q ↦ by q (slice_get source.temps q.at) refl
  ]
    where
      by : (q : Split given source.temps temps array.0) (o : Option Decl) → slice_get source.temps q.at ≡ o → takes is_store (length (fresh n array subs)) (slice_get (given ++ temps) array.0) ≡ true
      by q None e = no_decl is_store (length subs) (ap (takes is_store (length subs)) (sym (q.first ∙ e)) ∙ h)
      by q (Some d) e =
          let place = q.place in
          let there : slice_get (given ++ temps) array.0 ≡ Some (decl_by (fold_at_work source folds array.0) first d) =
          q.second ∙ decl_at first (extent_forms source) folds (length given) source.temps q.at ∙ ap (option_map (decl_by (fold_at_work source folds (length given + q.at)) first)) e ∙ ap (λ m. Some (decl_by (fold_at_work source folds m) first d)) (sym place) in
          ap (takes is_store (length (fresh n array subs))) there
          ∙ temp_takes is_store n subs array.0 q.at d place e (ap (takes is_store (length subs)) (sym (q.first ∙ e)) ∙ h) (fold_at_work source folds array.0) refl

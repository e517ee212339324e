-- What a fold makes of an access: each component is 0, a subscript of the source, or a remainder of two printable forms.
use Rattle.std.proofs.Common.{◌≡◌, ℕ, zero, suc, ◌≤◌, pos, Bool, true, false, ◌&&◌, IsTrue, if◌then◌else◌, List, [], ◌∷◌, length, get_or, map, Option, Some, None, refl, sym, subst, ◌∙◌, inl, inr, arith}
use Rattle.std.specs.Prelude.{slice_get, nat_eq}
use Rattle.std.specs.List.{All}
use Rattle.std.proofs.lemmas.Bool.{eqb-true}
use Rattle.std.proofs.lemmas.Option.{slice_get_within}
use Rattle.affc_rows.specs.Forms.{Affine, composed_form}
use Rattle.affc_ast.specs.declared.tree.ArrayId.{ArrayId}
use Rattle.affc_ast.specs.declared.tree.Ix.{Ix}
use Rattle.affc_ast.specs.declared.tree.Ix.TheVariants.{Lit, Mod}
use Rattle.affc_ast.specs.declared.tree.Program.{Program}
use Rattle.affc_trace.specs.Law.{IsIn}
use Rattle.affc_trace.specs.Target.{numbers_in}
use Rattle.affc_domain.specs.Affine.{form_of}
use Rattle.affc_domain.specs.Plain.{IsPlain, all_plain}
use Rattle.affc_domain.proofs.Lists.{length_map}
use Rattle.affc_cprint.proofs.ReadBackValues.{Each}
use Rattle.affc_basis.specs.declared.fold.Fold.{Fold}
use Rattle.affc_basis.specs.FoldLists.{AreFoldsIn}
use Rattle.affc_basis.specs.Folds.{KeepsLimits, forms_of, fold_of}
use Rattle.affc_basis.specs.Moduli.{IsModulus}
use Rattle.affc_basis.proofs.FoldsFound.{folds_are_found}
use Rattle.affc_domain.proofs.RangeLemmas.{numbers_are}
use Rattle.affc_loops.proofs.Sizes.{all_at}
use Rattle.affc_foldloops.specs.Refolds.{Subscripts}
use Rattle.affc_rewrite.specs.Rewrite.{is_one, is_unit, same_form, printed, component, components_from, subscripts_by, extent_forms, fold_at_work, folded_subscripts, KeepLimits}
use Rattle.affc_rewrite.specs.Sizes.{IsRow, IsPrintable}
use Rattle.affc_rewrite.proofs.Accesses.{sides_of}
use Rattle.affc_rewrite.proofs.FoldsPrinted.{rows_of}
use Rattle.affc_rewrite.proofs.Foldings.{few_rows}
use Rattle.affc_rewrite.proofs.WholeFolds.{works}
use Rattle.affc_rewrite.proofs.RowSizes.{row_printable, modulus_printable}

-- what a remainder stands for
pub record RemainderOf (first n : ℕ) (f b : Affine) : Type 0 where
  pub row : IsPrintable n f
  pub modulus : IsPrintable first b

module _ (first n : ℕ) (gs : List Affine) (P : Ix → Type 0) (zero_has : P (Lit (pos 0))) (mod_has : (f b : Affine) → RemainderOf first n f b → P (Mod (printed first f) (printed first b))) where
  component_has : (k : ℕ) (row b extent : Affine) (own : Ix) → P own → RemainderOf first n (composed_form row gs) b → P (component first gs k row b extent own)
  component_has k row b extent own h r = by (is_one b) (is_unit k row && same_form b extent)
    where
      by : (t u : Bool) → P (if t then Lit (pos 0) else (if u then own else Mod (printed first (composed_form row gs)) (printed first b)))
      by true u = zero_has
      by false true = h
      by false false = mod_has (composed_form row gs) b r

  pub components_have : (k : ℕ) (rows moduli extents : List Affine) (own : List Ix) → Each P own
      → ((i : ℕ) (row : Affine) → slice_get rows i ≡ Some row → IsPrintable n (composed_form row gs)) → ((j : ℕ) (b : Affine) → slice_get moduli j ≡ Some b → IsPrintable first b)
      → Each P (components_from first gs k rows moduli extents own)
  components_have k [] moduli extents own h r m = tt
  components_have k (row ∷ rows) [] extents own h r m = tt
  components_have k (row ∷ rows) (b ∷ moduli) [] own h r m = tt
  components_have k (row ∷ rows) (b ∷ moduli) (extent ∷ extents) [] h r m = tt
  components_have k (row ∷ rows) (b ∷ moduli) (extent ∷ extents) (e ∷ own) h r m = (
    component_has k row b extent e h.0 (record { row = r 0 row refl; modulus = m 0 b refl }),
    components_have (suc k) rows moduli extents own h.1 (λ i x e. r (suc i) x e) (λ j x e. m (suc j) x e),
  )

pub components_long : (first m k : ℕ) (gs rows moduli extents : List Affine) (own : List Ix) → length rows ≡ m → length moduli ≡ m → length extents ≡ m → length own ≡ m
    → length (components_from first gs k rows moduli extents own) ≡ m
components_long first m k gs [] moduli extents own a b c d = a
components_long first m k gs (row ∷ rows) [] extents own a b c d = absurd (omega (arith, a, b))
components_long first m k gs (row ∷ rows) (x ∷ moduli) [] own a b c d = absurd (omega (arith, a, c))
components_long first m k gs (row ∷ rows) (x ∷ moduli) (y ∷ extents) [] a b c d = absurd (omega (arith, a, d))
components_long first zero k gs (row ∷ rows) (x ∷ moduli) (y ∷ extents) (e ∷ own) a b c d = absurd (omega (arith, a))
components_long first (suc m) k gs (row ∷ rows) (x ∷ moduli) (y ∷ extents) (e ∷ own) a b c d =
    let r = components_long first m (suc k) gs rows moduli extents own (omega (arith, a)) (omega (arith, b)) (omega (arith, c)) (omega (arith, d)) in
    omega (arith, r)

module _ (source : Program) (folds : List (ArrayId × Fold)) (plain : IsPlain source) (are : AreFoldsIn source folds) (limits : KeepLimits source folds) where
  abbrev first : ℕ
  first = numbers_in source.params

  abbrev at : Subscripts
  at = folded_subscripts source folds

  pub few_first : first ≤ 4
  few_first = let e = numbers_are source.params in let h = plain.few_numbers in omega (arith, e, h)

  keeps : (array : ℕ) (fold : Fold) → fold_of folds array ≡ Some fold → KeepsLimits first fold
  keeps array fold e =
      let found = (folds_are_found source folds array fold are).0 e in
      in_folds folds (found.0, fold) limits found.2
    where
      in_folds : (fs : List (ArrayId × Fold)) (f : ArrayId × Fold) → All (λ (g : ArrayId × Fold). KeepsLimits first g.1) fs → IsIn f fs → KeepsLimits first f.1
      in_folds [] f h i = absurd i
      in_folds (g ∷ fs) f h (inl e) = subst (λ (x : ArrayId × Fold). KeepsLimits first x.1) (sym e) (h 0 g (omega arith))
      in_folds (g ∷ fs) f h (inr i) = in_folds fs f (λ j x l. h (suc j) x (omega (arith, l))) i

  -- its moduli are printable
  pub moduli_are : (array : ℕ) (fold : Fold) → fold_at_work source folds array ≡ Some fold → (j : ℕ) (b : Affine) → slice_get (forms_of fold.moduli) j ≡ Some b → IsPrintable first b
  moduli_are array fold e j b f = modulus_printable first b few_first (all_at (IsModulus first) (forms_of fold.moduli) j b (keeps array fold (works (extent_forms source) folds array fold e)) f)

  -- so are the rows of an access
  pub rows_are : (n : ℕ) (fold : Fold) (subs : List Ix) → n ≤ 16 → IsTrue (all_plain n subs) → length subs ≡ length fold.basis.rows
      → (i : ℕ) (row : Affine) → slice_get fold.basis.rows i ≡ Some row → IsPrintable n (composed_form row (map (form_of n 0) subs))
  rows_are n fold subs short h long i row e =
      let l : length (map (form_of n 0) subs) ≡ length subs = length_map (form_of n 0) subs in
      let few = few_rows fold in
      let some = slice_get_within fold.basis.rows i row e in
      row_printable n row (map (form_of n 0) subs) (subst (λ d. IsRow d row) (sym (l ∙ long)) (rows_of fold i row e)) (sides_of n subs h) (omega (arith, l, long, some)) (omega (arith, l, long, few)) short

  -- what holds of the subscripts, of 0 and of remainders holds of what comes in their place
  pub at_have : (P : Ix → Type 0) (n : ℕ) (array : ArrayId) (subs : List Ix) → n ≤ 16 → IsTrue (all_plain n subs) → Each P subs
      → P (Lit (pos 0)) → ((f b : Affine) → RemainderOf first n f b → P (Mod (printed first f) (printed first b))) → Each P (at n array subs)
  at_have P n array subs short h own zero_has mod_has = by (fold_at_work source folds array.0) refl
    where
      extents : List Affine
      extents = get_or (extent_forms source) array.0 []

      by : (o : Option Fold) → fold_at_work source folds array.0 ≡ o → Each P (subscripts_by o first n extents subs)
      by None e = own
      by (Some fold) e = by_count (nat_eq (length subs) (length fold.basis.rows)) refl
        where
          by_count : (t : Bool) → nat_eq (length subs) (length fold.basis.rows) ≡ t
              → Each P (if t then components_from first (map (form_of n 0) subs) 0 fold.basis.rows (forms_of fold.moduli) extents subs else subs)
          by_count false f = own
          by_count true f =
              components_have first n (map (form_of n 0) subs) P zero_has mod_has 0 fold.basis.rows (forms_of fold.moduli) extents subs own
              (rows_are n fold subs short h (eqb-true (length subs) (length fold.basis.rows) f)) (moduli_are array.0 fold e)

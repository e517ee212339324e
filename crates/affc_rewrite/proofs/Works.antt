-- What is printed rests on the folds that are at work.
use Rattle.std.proofs.Common.{◌≡◌, ℕ, suc, List, [], ◌∷◌, length, get_or, map, Option, Some, None, if◌then◌else◌, refl, ap, ap₂}
use Rattle.std.specs.Prelude.{nat_eq}
use Rattle.affc_rows.specs.Forms.{Affine}
use Rattle.affc_ast.specs.declared.tree.ArrayId.{ArrayId}
use Rattle.affc_ast.specs.declared.tree.Decl.{Decl}
use Rattle.affc_ast.specs.declared.tree.Ix.{Ix}
use Rattle.affc_ast.specs.declared.tree.Program.{Program}
use Rattle.affc_ast.specs.Meaning.{arrays_of}
use Rattle.affc_trace.specs.Target.{numbers_in}
use Rattle.affc_domain.specs.Affine.{form_of}
use Rattle.affc_basis.specs.declared.fold.Fold.{Fold}
use Rattle.affc_foldloops.specs.Refolds.{Subscripts, refolded}
use Rattle.affc_rewrite.specs.Laws.{PrintedByWork}
use Rattle.affc_rewrite.specs.Rewrite.{printed, components_from, subscripts_by, extent_forms, fold_at_work, folded_subscripts, decl_by, decls_from, folded_temps, has_calls, PrintAlike}

subscripts_alike : (parameters names : ℕ) (extents : List Affine) (subs : List Ix) (o w : Option Fold) → PrintAlike o w → subscripts_by o parameters names extents subs ≡ subscripts_by w parameters names extents subs
subscripts_alike parameters names extents subs None None h = refl
subscripts_alike parameters names extents subs None (Some g) h = absurd h
subscripts_alike parameters names extents subs (Some f) None h = absurd h
subscripts_alike parameters names extents subs (Some f) (Some g) h =
    ap₂ (λ rows moduli. if nat_eq (length subs) (length rows) then components_from parameters (map (form_of names 0) subs) 0 rows moduli extents subs else subs) h.0 h.1

decl_alike : (parameters : ℕ) (d : Decl) (o w : Option Fold) → PrintAlike o w → decl_by o parameters d ≡ decl_by w parameters d
decl_alike parameters d None None h = refl
decl_alike parameters d None (Some g) h = absurd h
decl_alike parameters d (Some f) None h = absurd h
decl_alike parameters d (Some f) (Some g) h = ap (λ moduli. record d { extents = map (printed parameters) moduli }) h.1

module _ (source : Program) (folds others : List (ArrayId × Fold)) (alike : (array : ℕ) → PrintAlike (fold_at_work source folds array) (fold_at_work source others array)) where
  decls_alike : (array : ℕ) (ds : List Decl) → decls_from (numbers_in source.params) (extent_forms source) folds array ds ≡ decls_from (numbers_in source.params) (extent_forms source) others array ds
  decls_alike array [] = refl
  decls_alike array (d ∷ ds) =
      ap₂ (λ x xs. x ∷ xs) (decl_alike (numbers_in source.params) d (fold_at_work source folds array) (fold_at_work source others array) (alike array)) (decls_alike (suc array) ds)

  one_by_one : (names : ℕ) (array : ArrayId) (subs : List Ix) → folded_subscripts source folds names array subs ≡ folded_subscripts source others names array subs
  one_by_one names array subs =
      subscripts_alike (numbers_in source.params) names (get_or (extent_forms source) array.0 []) subs (fold_at_work source folds array.0) (fold_at_work source others array.0) (alike array.0)

  same_subscripts : folded_subscripts source folds ≡ folded_subscripts source others
  same_subscripts = λ i names array subs. one_by_one names array subs i

  same_temps : folded_temps source folds ≡ folded_temps source others
  same_temps = decls_alike (length (arrays_of source.params)) source.temps

  abbrev made : Subscripts → List Decl → Program
  made at temps = record (refolded at temps source) { prelude = has_calls (refolded at temps source) }

  same_program : made (folded_subscripts source folds) (folded_temps source folds) ≡ made (folded_subscripts source others) (folded_temps source others)
  same_program = ap₂ made same_subscripts same_temps

pub printed_by_work : PrintedByWork
printed_by_work source folds others alike = same_program source folds others alike

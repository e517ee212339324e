-- Folded loops compile their source.
use Rattle.std.proofs.Common.{◌≡◌, ℕ, zero, suc, ℤ, pos, ◌&&◌, int_le, int_lt, true, true≢false, List, [], ◌∷◌, length, get_or, map, Some, refl, sym, ap, ◌∙◌, arith}
use Rattle.std.specs.Prelude.{slice_get}
use Rattle.std.proofs.lemmas.Option.{none-some, same_Some}
use Rattle.affc_ast.specs.declared.tree.ArrayId.{ArrayId}
use Rattle.affc_ast.specs.declared.tree.Decl.{Decl}
use Rattle.affc_ast.specs.declared.tree.Program.{Program}
use Rattle.affc_ast.specs.Fits.{Fits, whole}
use Rattle.affc_ast.specs.Meaning.{arrays_of}
use Rattle.affc_ast.specs.Values.{is_within}
use Rattle.affc_trace.specs.declared.schedule.Schedule.{Schedule}
use Rattle.affc_trace.specs.declared.schedule.Schedule.TheVariants.{Source, Time}
use Rattle.affc_trace.specs.Dataflow.{LivePair}
use Rattle.affc_trace.specs.Laws.{IsInContext}
use Rattle.affc_domain.specs.Arrays.{declared_arrays, extents_at}
use Rattle.affc_domain.proofs.Lists.{both_true, length_map}
use Rattle.affc_safe.specs.Safe.{IsSafe}
use Rattle.affc_safe.proofs.FitsThere.{never_stuck_is_safe}
use Rattle.affc_safe.proofs.PlainNear.{plain_has_no_locals, plain_never_overflows}
use Rattle.affc_loops.specs.Between.{program_between}
use Rattle.affc_loops.specs.Laws.{HaveSameLoops}
use Rattle.affc_domain.specs.Ranges.{number_ranges}
use Rattle.affc_basis.specs.declared.fold.Fold.{Fold}
use Rattle.affc_basis.specs.FoldLists.{IsFoldIn}
use Rattle.affc_basis.specs.Folds.{place}
use Rattle.affc_basis.specs.Laws.{HasDimensions, AreFoldsOf}
use Rattle.affc_basis.proofs.FoldPlaces.{compiles_folded}
use Rattle.affc_foldloops.specs.Laws.{FoldedSourceCompiles, FoldedBetweenCompile, RefoldedBetweenCompile}
use Rattle.affc_foldloops.specs.Placed.{HasFoldedLoops, Replaces}
use Rattle.affc_foldloops.specs.Refolds.{Subscripts, refolded, FoldsBy}
use Rattle.affc_foldloops.proofs.PlacedLaws.{source_runs_placed, between_run_placed}
use Rattle.affc_foldloops.proofs.RefoldLemmas.{refolded_keeps_shape}
use Rattle.affc_foldloops.proofs.ReplaceLemmas.{fold_in, behind_extents, refolded_replaces}

pub within_long : (xs ns : List ℤ) → is_within xs ns ≡ true → length xs ≡ length ns
within_long [] [] e = refl
within_long [] (n ∷ ns) e = absurd (true≢false (sym e))
within_long (x ∷ xs) [] e = absurd (true≢false (sym e))
within_long (x ∷ xs) (n ∷ ns) e = ap suc (within_long xs ns (both_true (int_le (pos 0) x && int_lt x n) (is_within xs ns) e).1)

pub its_extents : (es : List Decl) (p : List ℤ) (k : ℕ) (d : Decl) → slice_get es k ≡ Some d → get_or (extents_at es p) k [] ≡ map (λ e. whole e p) d.extents
its_extents [] p k d e = absurd (none-some d e)
its_extents (c ∷ es) p zero d e = ap (λ (c : Decl). map (λ e. whole e p) c.extents) (same_Some c d e)
its_extents (c ∷ es) p (suc k) d e = its_extents es p k d e

-- as many rows as the array has dimensions
pub dimensions : (source : Program) (p : List ℤ) (array : ℕ) (fold : Fold) → IsFoldIn source array fold → length (get_or (extents_at (declared_arrays source) p) array []) ≡ length fold.basis.rows
dimensions source p array fold f =
    ap (λ m. length (get_or (extents_at (declared_arrays source) p) m [])) f.behind
    ∙ ap length (behind_extents (arrays_of source.params) source.temps p f.number ∙ its_extents source.temps p f.number f.decl f.stands)
    ∙ length_map (λ e. whole e p) f.decl.extents ∙ sym f.rows

-- where a program is safe, each element that is touched has as many subscripts as its array has dimensions
has_dimensions : (source : Program) (p : List ℤ) (array : ℕ) (fold : Fold) → IsSafe source p → IsFoldIn source array fold → HasDimensions source p array (length fold.basis.rows)
has_dimensions source p array fold safe f b x i t =
    within_long x (get_or (extents_at (declared_arrays source) p) array []) (safe.within b (array, x) i t) ∙ dimensions source p array fold f

module _ (source : Program) (schedule : Schedule) (folds : List (ArrayId × Fold)) (has : HasFoldedLoops source schedule folds) where
  -- where the program is safe
  pub safe_at : (p : List ℤ) → IsInContext source p → IsSafe source p
  safe_at p inside = never_stuck_is_safe source p (plain_has_no_locals source (has.loops).plain) inside (has.ends p)

  folds_proper : AreFoldsOf source folds
  folds_proper = record {
    temporary = λ array fold e. let f = (fold_in source folds has.folds_in array fold e).behind in omega (arith, f);
    dimensions = λ array fold e p inside. has_dimensions source p array fold (safe_at p inside) (fold_in source folds has.folds_in array fold e);
  }

-- the folded program does what the source does, each element at its place
pub replaces_at : (at : Subscripts) (temps : List Decl) (source : Program) (schedule : Schedule) (folds : List (ArrayId × Fold)) → HasFoldedLoops source schedule folds → (p : List ℤ) → IsInContext source p
    → FoldsBy at temps source folds p → Replaces (refolded at temps source) source (place folds p) p
replaces_at at temps source schedule folds has p inside by =
    refolded_replaces at temps source folds p (plain_has_no_locals source (has.loops).plain) inside.ranges (plain_never_overflows source p (has.loops).plain (has.loops).near inside.ranges)
    (safe_at source schedule folds has p inside) has.folds_in by

pub folded_source_compiles : FoldedSourceCompiles
folded_source_compiles other source folds has r =
    let same : HaveSameLoops source other = record { same_rounds = r.same_rounds; same_ranges = ap number_ranges r.params } in
    compiles_folded (LivePair source Source) other source Source folds (plain_has_no_locals source (has.loops).plain)
    r.name r.params r.context has.ends has.legal (folds_proper source Source folds has) (λ p inside array x y live. live) has.obeys
    (λ p store fits. source_runs_placed other source (place folds p) p store same (Fits.ranges fits) (r.replaces p (record { ranges = Fits.ranges fits; context = Fits.context fits })))

pub folded_between_compile : FoldedBetweenCompile
folded_between_compile other source n maps ends folds has r times =
    let same : HaveSameLoops source other = record { same_rounds = r.same_rounds; same_ranges = ap number_ranges r.params } in
    compiles_folded (LivePair source (Time n maps)) (program_between other maps ends) source (Time n maps) folds (plain_has_no_locals source (has.loops).plain)
    r.name r.params r.context has.ends has.legal (folds_proper source (Time n maps) folds has) (λ p inside array x y live. live) has.obeys
    (λ p store fits.
    let inside : IsInContext source p = record { ranges = Fits.ranges fits; context = Fits.context fits } in
    between_run_placed other source n maps ends (place folds p) p store has.loops same (Fits.ranges fits) (times p inside) (r.replaces p inside))

pub refolded_between_compile : RefoldedBetweenCompile
refolded_between_compile at temps source n maps ends folds has by times =
    folded_between_compile (refolded at temps source) source n maps ends folds has (record {
      name = refl;
      params = refl;
      context = refl;
      same_rounds = ((refolded_keeps_shape at temps source).same_loops).same_rounds;
      replaces = λ p inside. replaces_at at temps source (Time n maps) folds has p inside (by p inside);
    })
    times

-- What holds of the source as it is printed with folds.
use Rattle.std.specs.Prelude.{◌≡◌, ℕ, ℤ, IsTrue, List, Some, None}
use Rattle.affc_ast.specs.declared.tree.ArrayId.{ArrayId}
use Rattle.affc_ast.specs.declared.tree.Program.{Program}
use Rattle.affc_ast.specs.Fits.{within_ranges}
use Rattle.affc_trace.specs.declared.schedule.Schedule.{Schedule}
use Rattle.affc_domain.specs.Plain.{IsPlain}
use Rattle.affc_domain.specs.Ranges.{first_wide}
use Rattle.affc_safe.specs.Safe.{IsSafe}
use Rattle.affc_basis.specs.declared.fold.Fold.{Fold}
use Rattle.affc_basis.specs.FoldLists.{AreFoldsIn}
use Rattle.affc_basis.specs.Folds.{forms_of, fold_of}
use Rattle.affc_basis.specs.Moduli.{ArePositive}
use Rattle.affc_foldloops.specs.Placed.{HasFoldedLoops, ReplacesFolded}
use Rattle.affc_foldloops.specs.Refolds.{FoldsBy}
use Rattle.affc_rewrite.specs.Rewrite.{KeepLimits, fold_at_work, PrintAlike, folded_subscripts, folded_temps, folded_program}

-- Where a plain source is safe, and the moduli of its folds are within their limits and at least 1, the printed subscripts and
-- extents are those of the folds: the subscripts are of the places, and whatever is read keeps within `int64_t`.
abbrev pub PrintedFolds : Type 0
PrintedFolds = (source : Program) (folds : List (ArrayId × Fold)) (p : List ℤ)
    → IsPlain source → first_wide source ≡ None → IsTrue (within_ranges source.params p) → IsSafe source p
    → AreFoldsIn source folds → KeepLimits source folds → ((array : ℕ) (fold : Fold) → fold_of folds array ≡ Some fold → ArePositive p (forms_of fold.moduli))
    → FoldsBy (folded_subscripts source folds) (folded_temps source folds) source folds p

-- So the folded program has the source's declarations, loops and conditions, and replaces it throughout the context.
abbrev pub FoldedProgramReplaces : Type 0
FoldedProgramReplaces = (source : Program) (schedule : Schedule) (folds : List (ArrayId × Fold))
    → HasFoldedLoops source schedule folds → KeepLimits source folds → ReplacesFolded (folded_program source folds) source folds

-- What is printed rests on the rows and moduli of the folds that are at work, and on nothing else of them.
abbrev pub PrintedByWork : Type 0
PrintedByWork = (source : Program) (folds others : List (ArrayId × Fold))
    → ((array : ℕ) → PrintAlike (fold_at_work source folds array) (fold_at_work source others array)) → folded_program source folds ≡ folded_program source others

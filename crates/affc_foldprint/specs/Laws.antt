-- A program with folds is scanned, and printed, as its source is.
use Rattle.std.specs.Prelude.{◌≡◌, ℕ, List, [], ◌∷◌}
use Rattle.affc_ast.specs.declared.tree.ArrayId.{ArrayId}
use Rattle.affc_ast.specs.declared.tree.Program.{Program}
use Rattle.affc_grammar.specs.Reads.{Reads, WellNamed}
use Rattle.affc_ast.specs.Compiles.{Compiles}
use Rattle.affc_trace.specs.declared.schedule.Schedule.{Schedule}
use Rattle.affc_trace.specs.declared.schedule.Schedule.TheVariants.{Time}
use Rattle.affc_trace.specs.declared.schedule.TimeMap.{TimeMap}
use Rattle.affc_trace.specs.Laws.{in_target_order}
use Rattle.affc_nest.specs.declared.nest.Nest.{Nest}
use Rattle.affc_nest.specs.Nests.{nest_of}
use Rattle.affc_plain.specs.Laws.{IsBare}
use Rattle.affc_loops.specs.Laws.{HasLoops}
use Rattle.affc_loops.specs.Loops.{Scheduled, scheduled}
use Rattle.affc_loopends.specs.declared.scanned.scanned.Scanned.{Scanned}
use Rattle.affc_loopends.specs.scanned.Laws.{HaveSameTimes, RunsTightly}
use Rattle.affc_loopends.specs.scanned.Scanned.{Scans}
use Rattle.affc_basis.specs.declared.fold.Fold.{Fold}
use Rattle.affc_basis.specs.FoldLists.{AreFoldsIn}
use Rattle.affc_basis.specs.Folds.{place}
use Rattle.affc_foldloops.specs.Placed.{HasFoldedLoops}
use Rattle.affc_scan.specs.Laws.{IsNestFor}
use Rattle.affc_loopprint.specs.Spare.{IsSpare}
use Rattle.affc_rewrite.specs.Rewrite.{KeepLimits, folded_program}

-- The source's nest is one for the folded program.
abbrev pub FoldsAreScanned : Type 0
FoldsAreScanned = (source : Program) (nest : Nest) (schedule : Schedule) (folds : List (ArrayId × Fold))
    → HasLoops source schedule → AreFoldsIn source folds → nest ≡ nest_of source → IsNestFor (folded_program source folds) nest schedule

-- Where a text reads as the source, which is bare, the folded program has room for loops.
abbrev pub FoldsSpare : Type 0
FoldsSpare = (text : List ℕ) (source : Program) (folds : List (ArrayId × Fold))
    → Reads text source → IsBare source → AreFoldsIn source folds → KeepLimits source folds → IsSpare (folded_program source folds)

-- So its loops, as they are scanned, are well named.
abbrev pub FoldsWellNamed : Type 0
FoldsWellNamed = (text : List ℕ) (source : Program) (schedule : Schedule) (folds : List (ArrayId × Fold)) (s : Scanned)
    → Reads text source → IsBare source → HasLoops source schedule → AreFoldsIn source folds → KeepLimits source folds
    → Scans (folded_program source folds) schedule s → WellNamed s.program

-- ---- What they do

-- The folded program has the source's loops, conditions and context.
abbrev pub FoldsKeepTimes : Type 0
FoldsKeepTimes = (source : Program) (folds : List (ArrayId × Fold)) → HaveSameTimes source (folded_program source folds)

-- Its loops, as they are scanned, compile the source, under a legal schedule and with folds that obey.
abbrev pub FoldsCompile : Type 0
FoldsCompile = (source : Program) (schedule : Schedule) (folds : List (ArrayId × Fold)) (s : Scanned)
    → HasFoldedLoops source schedule folds → KeepLimits source folds → Scans (folded_program source folds) schedule s
    → Compiles s.program source (in_target_order schedule) (place folds)

-- Where one statement alone can have instances and no component is loose, each turn extends to a point of its time set.
abbrev pub FoldsRunTightly : Type 0
FoldsRunTightly = (source : Program) (length_of_time : ℕ) (maps : List TimeMap) (folds : List (ArrayId × Fold)) (e : Scheduled) (s : Scanned)
    → HasLoops source (Time length_of_time maps) → scheduled source maps ≡ e ∷ []
    → Scans (folded_program source folds) (Time length_of_time maps) s → s.loose.items ≡ [] → RunsTightly source (folded_program source folds) maps e s.program

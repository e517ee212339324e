-- What may be concluded of programs that stand for a source at places, and of folded ones.
use Rattle.std.specs.Prelude.{◌≡◌, ℕ, ℤ, pos, ◌≤ℤ◌, ◌<ℤ◌, IsTrue, true, List, length, map, Some}
use Rattle.std.specs.Int.{int_rem_euclid}
use Rattle.affc_rows.specs.Forms.{value}
use Rattle.affc_ast.specs.declared.tree.ArrayId.{ArrayId}
use Rattle.affc_ast.specs.declared.tree.Decl.{Decl}
use Rattle.affc_ast.specs.declared.tree.Ix.{Ix}
use Rattle.affc_ast.specs.declared.tree.Ix.TheVariants.{Mod}
use Rattle.affc_ast.specs.declared.tree.Program.{Program}
use Rattle.affc_ast.specs.Compiles.{Compiles}
use Rattle.affc_ast.specs.Fits.{whole, within_ranges}
use Rattle.affc_ast.specs.Store.{Element, Store}
use Rattle.affc_ast.specs.Trace.{Assignment, trace}
use Rattle.affc_ast.specs.Values.{is_within}
use Rattle.affc_trace.specs.declared.schedule.Schedule.TheVariants.{Source, Time}
use Rattle.affc_trace.specs.declared.schedule.TimeMap.{TimeMap}
use Rattle.affc_trace.specs.Effects.{effect, effect_by, effects, has_no_locals}
use Rattle.affc_trace.specs.Law.{IsIn, at_place, placed}
use Rattle.affc_trace.specs.Laws.{IsInContext, RunsTarget, in_target_order}
use Rattle.affc_trace.specs.Target.{numbers_in, target}
use Rattle.affc_domain.specs.Accesses.{Access, accesses_of}
use Rattle.affc_safe.specs.Overflow.{IsReadable, keeps_near, NeverOverflows}
use Rattle.affc_safe.specs.Safe.{IsSafe}
use Rattle.affc_loops.specs.Between.{program_between, HoldTimes}
use Rattle.affc_loops.specs.Laws.{HasLoops, HaveSameLoops}
use Rattle.affc_basis.specs.declared.fold.Fold.{Fold}
use Rattle.affc_basis.specs.FoldLists.{AreFoldsIn}
use Rattle.affc_basis.specs.Folds.{folded, forms_of, place}
use Rattle.affc_basis.specs.Moduli.{ArePositive}
use Rattle.affc_foldloops.specs.Placed.{StandsFor, Replaces, HasFoldedLoops, ReplacesFolded}
use Rattle.affc_foldloops.specs.Refolds.{Subscripts, refolded, refolded_assignment, AtEachAccess, IsAtPlace, FoldsBy}

-- ---- Other subscripts

-- the same instances, loops and conditions
pub record KeepsShape (other program : Program) : Type 0 where
  pub same_loops : HaveSameLoops program other
  pub same_trace : (p : List ℤ) → trace other p ≡ trace program p
  pub same_locals : has_no_locals other ≡ has_no_locals program
  pub same_near : keeps_near other ≡ keeps_near program

-- A program with other subscripts and temporaries keeps its shape.
abbrev pub RefoldedKeepsShape : Type 0
RefoldedKeepsShape = (at : Subscripts) (temps : List Decl) (program : Program) → KeepsShape (refolded at temps program) program

-- Where the new subscripts of each access are of its element's place, an assignment does the same at the places.
abbrev pub RefoldedEffect : Type 0
RefoldedEffect = (at : Subscripts) (a : Assignment) (names : List ℤ) (place : Element → Element)
    → ((x : Access) → IsIn x (accesses_of a) → IsAtPlace at place names x)
    → effect_by (Some (refolded_assignment at (length names) a)) names ≡ at_place place (effect_by (Some a) names)

-- Where this holds at each instance, the whole program stands for the one that it was.
abbrev pub RefoldedStands : Type 0
RefoldedStands = (at : Subscripts) (temps : List Decl) (program : Program) (place : Element → Element) (p : List ℤ)
    → IsTrue (has_no_locals program) → length p ≡ numbers_in program.params
    → AtEachAccess program p (IsAtPlace at place) → StandsFor (refolded at temps program) program place p

-- Subscripts that give the places of folds and are read, and temporaries that have the moduli for extents, make a program that
-- replaces its source.
abbrev pub RefoldedReplaces : Type 0
RefoldedReplaces = (at : Subscripts) (temps : List Decl) (source : Program) (folds : List (ArrayId × Fold)) (p : List ℤ)
    → IsTrue (has_no_locals source) → IsTrue (within_ranges source.params p) → NeverOverflows source p → IsSafe source p
    → AreFoldsIn source folds → FoldsBy at temps source folds p
    → Replaces (refolded at temps source) source (place folds p) p

-- ---- The source's own order, in which the other program is run as it is

-- Where it replaces the source, its run from any store does what the source's instances do, in their order and with each element at its
-- place, and is stuck, if at all, for want of a value.
abbrev pub SourceRunsPlaced : Type 0
SourceRunsPlaced = (other source : Program) (place : Element → Element) (p : List ℤ) (store : Store)
    → HaveSameLoops source other → IsTrue (within_ranges source.params p) → Replaces other source place p
    → RunsTarget other source Source place p store

-- With folds that obey, a program that replaces the source at the folds' places compiles the source.
abbrev pub FoldedSourceCompiles : Type 0
FoldedSourceCompiles = (other source : Program) (folds : List (ArrayId × Fold))
    → HasFoldedLoops source Source folds → ReplacesFolded other source folds
    → Compiles other source (in_target_order Source) (place folds)

-- ---- Loops between any ends that hold the times

-- Read as whole numbers, the loops of a program that stands for the source run what the target's instances do, each once and
-- in order, with each element at its place.
abbrev pub BetweenDoPlaced : Type 0
BetweenDoPlaced = (other source : Program) (length_of_time : ℕ) (maps : List TimeMap) (ends : List (Ix × Ix)) (place : Element → Element) (p : List ℤ)
    → HasLoops source (Time length_of_time maps) → HaveSameLoops source other → IsTrue (within_ranges source.params p) → HoldTimes source maps ends p → StandsFor other source place p
    → effects (program_between other maps ends) p ≡ map (placed place (effect source p)) (target source (Time length_of_time maps) p)

-- Where it replaces the source, the loops run so from any store, and are stuck, if at all, for want of a value.
abbrev pub BetweenRunPlaced : Type 0
BetweenRunPlaced = (other source : Program) (length_of_time : ℕ) (maps : List TimeMap) (ends : List (Ix × Ix)) (place : Element → Element) (p : List ℤ) (store : Store)
    → HasLoops source (Time length_of_time maps) → HaveSameLoops source other → IsTrue (within_ranges source.params p) → HoldTimes source maps ends p → Replaces other source place p
    → RunsTarget (program_between other maps ends) source (Time length_of_time maps) place p store

-- Under a legal schedule, and with folds that obey, the loops of a program that replaces the source at the folds' places
-- compile the source.
abbrev pub FoldedBetweenCompile : Type 0
FoldedBetweenCompile = (other source : Program) (length_of_time : ℕ) (maps : List TimeMap) (ends : List (Ix × Ix)) (folds : List (ArrayId × Fold))
    → HasFoldedLoops source (Time length_of_time maps) folds → ReplacesFolded other source folds
    → ((p : List ℤ) → IsInContext source p → HoldTimes source maps ends p)
    → Compiles (program_between other maps ends) source (in_target_order (Time length_of_time maps)) (place folds)

-- So do the loops of the source with such subscripts and temporaries.
abbrev pub RefoldedBetweenCompile : Type 0
RefoldedBetweenCompile = (at : Subscripts) (temps : List Decl) (source : Program) (length_of_time : ℕ) (maps : List TimeMap) (ends : List (Ix × Ix)) (folds : List (ArrayId × Fold))
    → HasFoldedLoops source (Time length_of_time maps) folds → ((p : List ℤ) → IsInContext source p → FoldsBy at temps source folds p)
    → ((p : List ℤ) → IsInContext source p → HoldTimes source maps ends p)
    → Compiles (program_between (refolded at temps source) maps ends) source (in_target_order (Time length_of_time maps)) (place folds)

-- ---- Remainders

-- A remainder is read where both sides are and the divisor is at least 1; then it is from 0 to the divisor less 1.
abbrev pub RemainderIsRead : Type 0
RemainderIsRead = (a b : Ix) (names : List ℤ) → IsReadable a names → IsReadable b names → pos 1 ≤ℤ whole b names
    → IsReadable (Mod a b) names
    × (whole (Mod a b) names ≡ int_rem_euclid (whole a names) (whole b names))
    × (pos 0 ≤ℤ whole (Mod a b) names)
    × (whole (Mod a b) names <ℤ whole b names)

-- A place lies within the moduli.
abbrev pub PlaceLiesWithin : Type 0
PlaceLiesWithin = (fold : Fold) (p x : List ℤ) → ArePositive p (forms_of fold.moduli) → is_within (folded fold p x) (map (λ b. value b p) (forms_of fold.moduli)) ≡ true

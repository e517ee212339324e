-- What holds of scanned programs.
use Rattle.std.specs.Prelude.{◌≡◌, ℕ, ℤ, List, [], ◌∷◌, ◌++◌}
use Rattle.affc_ast.specs.declared.tree.Ix.{Ix}
use Rattle.affc_ast.specs.declared.tree.Program.{Program}
use Rattle.affc_ast.specs.Compiles.{Compiles}
use Rattle.affc_ast.specs.Fits.{Fits}
use Rattle.affc_ast.specs.Meaning.{State, Ended, meaning}
use Rattle.affc_ast.specs.Store.{Store}
use Rattle.affc_trace.specs.declared.schedule.Schedule.{Schedule}
use Rattle.affc_trace.specs.declared.schedule.Schedule.TheVariants.{Time}
use Rattle.affc_trace.specs.declared.schedule.TimeMap.{TimeMap}
use Rattle.affc_trace.specs.Dataflow.{Legal}
use Rattle.affc_trace.specs.Laws.{IsInContext, RunsTarget, in_target_order}
use Rattle.affc_safe.specs.Safe.{HasExtents, KeepsWithin}
use Rattle.affc_loops.specs.Between.{program_between, IsTurn, HoldTimes}
use Rattle.affc_loops.specs.Laws.{HasLoops, HaveSameLoops}
use Rattle.affc_loops.specs.Loops.{Scheduled, scheduled}
use Rattle.affc_loopends.specs.TimeSets.{ExtendsToTimePoint, timed_in}
use Rattle.affc_loopends.specs.declared.scanned.scanned.Scanned.{Scanned}
use Rattle.affc_loopends.specs.scanned.Scanned.{Scans}

-- the same loops and conditions round the statements, the same ranges of the parameters, and the same context
pub record HaveSameTimes (source other : Program) : Type 0 where
  pub same_loops : HaveSameLoops source other
  pub same_context : other.context ≡ source.context

-- The other's loops run between ends that, throughout the context, hold the times of the source's instances.
pub record RunsBetween (source other : Program) (maps : List TimeMap) (scanned : Program) : Type 0 where
  pub ends : List (Ix × Ix)
  pub is : scanned ≡ program_between other maps ends
  pub hold : (p : List ℤ) → IsInContext source p → HoldTimes source maps ends p

abbrev pub ScansRunBetween : Type 0
ScansRunBetween = (source other : Program) (length_of_time : ℕ) (maps : List TimeMap) (s : Scanned)
    → HasLoops source (Time length_of_time maps) → HaveSameTimes source other → Scans other (Time length_of_time maps) s → RunsBetween source other maps s.program

-- So a scanned source runs the target's instances, each once and in order, from any store: no number in it leaves `int64_t` and no access lies
-- outside, so that it is stuck, if at all, for want of a value.
abbrev pub ScansRunTarget : Type 0
ScansRunTarget = (source : Program) (schedule : Schedule) (s : Scanned) (p : List ℤ) (store : Store)
    → HasLoops source schedule → Scans source schedule s → IsInContext source p → HasExtents source p → KeepsWithin source p
    → RunsTarget s.program source schedule (λ x. x) p store

-- Under a legal schedule it compiles a source that ends for all data that fit.
abbrev pub ScansCompile : Type 0
ScansCompile = (source : Program) (schedule : Schedule) (s : Scanned)
    → HasLoops source schedule → Scans source schedule s
    → ((p : List ℤ) (store : Store) → Fits source p store → (end : State) × (meaning source p store ≡ Ended end))
    → ((p : List ℤ) → IsInContext source p → Legal source schedule p)
    → Compiles s.program source (in_target_order schedule) (λ p x. x)

-- The loops run between ends at whose every turn, at each p of the context at which the statement's time set has a point, the values of the
-- parameters and of the components so far begin a point of the time set.
pub record RunsTightly (source other : Program) (maps : List TimeMap) (e : Scheduled) (scanned : Program) : Type 0 where
  pub ends : List (Ix × Ix)
  pub is : scanned ≡ program_between other maps ends
  pub extend : (p components : List ℤ) → IsInContext source p → ExtendsToTimePoint (timed_in source e.around e.ranges e.times) p
      → IsTurn ends p components → ExtendsToTimePoint (timed_in source e.around e.ranges e.times) (p ++ components)

-- Where one statement alone can have instances and no component is loose.
abbrev pub TurnsExtend : Type 0
TurnsExtend = (source other : Program) (length_of_time : ℕ) (maps : List TimeMap) (e : Scheduled) (s : Scanned)
    → HasLoops source (Time length_of_time maps) → HaveSameTimes source other → scheduled source maps ≡ e ∷ []
    → Scans other (Time length_of_time maps) s → s.loose.items ≡ [] → RunsTightly source other maps e s.program

-- What is scanned of a source is scanned, with other assignments in the loops, of each program with its loops, conditions and context: the same
-- components are loose.
abbrev pub SameLoopsScan : Type 0
SameLoopsScan = (source other : Program) (schedule : Schedule) (s : Scanned)
    → HasLoops source schedule → HaveSameTimes source other → Scans source schedule s
    → (of_other : Scanned) × Scans other schedule of_other × (of_other.loose ≡ s.loose)

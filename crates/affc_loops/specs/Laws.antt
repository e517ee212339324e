-- What the loops of a schedule do.
use Rattle.std.specs.Prelude.{◌≡◌, ℕ, ℤ, IsTrue, List, [], ◌∷◌, ◌++◌, length, Some, None, map, slice_get}
use Rattle.affc_rows.specs.Forms.{values_of}
use Rattle.affc_system.specs.Boxes.{InBox}
use Rattle.affc_ast.specs.declared.tree.Ix.{Ix}
use Rattle.affc_ast.specs.declared.tree.Program.{Program}
use Rattle.affc_ast.specs.Compiles.{Compiles}
use Rattle.affc_ast.specs.Fits.{Fits, within_ranges}
use Rattle.affc_ast.specs.Meaning.{State, Ended, meaning}
use Rattle.affc_ast.specs.Store.{Store}
use Rattle.affc_trace.specs.declared.schedule.Schedule.{Schedule}
use Rattle.affc_trace.specs.declared.schedule.Schedule.TheVariants.{Source, Time}
use Rattle.affc_trace.specs.declared.schedule.TimeMap.{TimeMap}
use Rattle.affc_trace.specs.Dataflow.{Legal}
use Rattle.affc_trace.specs.Effects.{effect, effects}
use Rattle.affc_trace.specs.Law.{IsIn, placed}
use Rattle.affc_trace.specs.Laws.{IsInContext, RunsTarget, in_target_order}
use Rattle.affc_trace.specs.Target.{target, numbers_in, IsScheduleOf, within_limits}
use Rattle.affc_domain.specs.Plain.{IsPlain}
use Rattle.affc_domain.specs.Ranges.{first_wide, number_ranges}
use Rattle.affc_domain.specs.Rounds.{rounds}
use Rattle.affc_safe.specs.Safe.{HasExtents, KeepsWithin}
use Rattle.affc_loops.specs.Between.{program_between, IsTurn, HoldTimes}
use Rattle.affc_loops.specs.Ends.{Sides, ends_of, AreSidesFrom, MeetAlong, AreRowsOfEach}
use Rattle.affc_loops.specs.Loops.{Scheduled, scheduled, time_ranges}

-- A plain program no loop of which passes 2^31, and a schedule of it within its limits.
pub record HasLoops (source : Program) (schedule : Schedule) : Type 0 where
  pub plain : IsPlain source
  pub near : first_wide source ≡ None
  pub scheduled : IsScheduleOf source schedule
  pub limits : IsTrue (within_limits schedule)

-- the same loops and conditions round the statements, and the same ranges of the parameters
pub record HaveSameLoops (source other : Program) : Type 0 where
  pub same_rounds : rounds other ≡ rounds source
  pub same_ranges : number_ranges other.params ≡ number_ranges source.params

-- ---- The source's own order, in which it is the program itself

-- Where the source's extents are at least 1 and its accesses lie within them, it runs its target from any store: no number in it
-- leaves `int64_t` and no access lies outside, so that it is stuck, if at all, for want of a value.
abbrev pub SourceRunsTarget : Type 0
SourceRunsTarget = (source : Program) (p : List ℤ) (store : Store)
    → HasLoops source Source → IsTrue (within_ranges source.params p) → HasExtents source p → KeepsWithin source p
    → RunsTarget source source Source (λ x. x) p store

-- A source that ends for all data that fit compiles itself.
abbrev pub SourceCompiles : Type 0
SourceCompiles = (source : Program)
    → HasLoops source Source
    → ((p : List ℤ) (store : Store) → Fits source p store → (end : State) × (meaning source p store ≡ Ended end))
    → ((p : List ℤ) → IsInContext source p → Legal source Source p)
    → Compiles source source (in_target_order Source) (λ p x. x)

-- ---- Loops between any ends that hold the times

-- Read as whole numbers, the loops and conditions run what the target's instances do, each once and in order.
abbrev pub BetweenDoTarget : Type 0
BetweenDoTarget = (source : Program) (length_of_time : ℕ) (maps : List TimeMap) (ends : List (Ix × Ix)) (p : List ℤ)
    → HasLoops source (Time length_of_time maps) → IsTrue (within_ranges source.params p) → HoldTimes source maps ends p
    → effects (program_between source maps ends) p ≡ map (placed (λ x. x) (effect source p)) (target source (Time length_of_time maps) p)

-- Where the source's extents are at least 1 and its accesses lie within them, the program runs so from any store, and is stuck, if
-- at all, for want of a value.
abbrev pub BetweenRunTarget : Type 0
BetweenRunTarget = (source : Program) (length_of_time : ℕ) (maps : List TimeMap) (ends : List (Ix × Ix)) (p : List ℤ) (store : Store)
    → HasLoops source (Time length_of_time maps) → IsTrue (within_ranges source.params p) → HoldTimes source maps ends p
    → HasExtents source p → KeepsWithin source p
    → RunsTarget (program_between source maps ends) source (Time length_of_time maps) (λ x. x) p store

-- Under a legal schedule the program compiles a source that ends for all data that fit.
abbrev pub BetweenCompile : Type 0
BetweenCompile = (source : Program) (length_of_time : ℕ) (maps : List TimeMap) (ends : List (Ix × Ix))
    → HasLoops source (Time length_of_time maps)
    → ((p : List ℤ) → IsInContext source p → HoldTimes source maps ends p)
    → ((p : List ℤ) (store : Store) → Fits source p store → (end : State) × (meaning source p store ≡ Ended end))
    → ((p : List ℤ) → IsInContext source p → Legal source (Time length_of_time maps) p)
    → Compiles (program_between source maps ends) source (in_target_order (Time length_of_time maps)) (λ p x. x)

-- Such are ends by rows that hold at the times of all instances.
abbrev pub RowsHoldTimes : Type 0
RowsHoldTimes = (source : Program) (length_of_time : ℕ) (maps : List TimeMap) (rows : List (List Sides)) (p : List ℤ)
    → HasLoops source (Time length_of_time maps) → IsTrue (within_ranges source.params p)
    → AreRowsOfEach source maps (time_ranges (number_ranges source.params) (scheduled source maps)) p (scheduled source maps) rows
    → HoldTimes source maps (ends_of source maps rows) p

-- Where one statement alone can have instances, its rows hold at each turn of the loops.
abbrev pub TurnsMeetRows : Type 0
TurnsMeetRows = (source : Program) (maps : List TimeMap) (e : Scheduled) (sides : List Sides) (ranges : List (ℤ × ℤ)) (p components : List ℤ)
    → scheduled source maps ≡ e ∷ [] → length p ≡ numbers_in source.params → AreSidesFrom (length p) ranges sides
    → IsTurn (ends_of source maps (sides ∷ [])) p components → MeetAlong sides p components

-- ---- The ranges of times

-- x is this component of the time of some statement at a point of its box
abbrev pub IsTime : (params : List (ℤ × ℤ)) → List Scheduled → (component : ℕ) → (x : ℤ) → Type 0
IsTime params es component x =
    (e : Scheduled) × IsIn e es × (p : List ℤ) × (xs : List ℤ) × InBox params p × InBox e.ranges xs × (slice_get (values_of e.times.forms (p ++ xs)) component ≡ Some x)

-- The ranges hold the times at all points of the boxes, and both ends of each are such times.
pub record AreTimeRanges (params : List (ℤ × ℤ)) (es : List Scheduled) (ranges : List (ℤ × ℤ)) : Type 0 where
  pub hold : (e : Scheduled) → IsIn e es → (p xs : List ℤ) → InBox params p → InBox e.ranges xs → InBox ranges (values_of e.times.forms (p ++ xs))
  pub least : (component : ℕ) (r : ℤ × ℤ) → slice_get ranges component ≡ Some r → IsTime params es component r.0
  pub greatest : (component : ℕ) (r : ℤ × ℤ) → slice_get ranges component ≡ Some r → IsTime params es component r.1

abbrev pub RangesOfTimes : Type 0
RangesOfTimes = (source : Program) (length_of_time : ℕ) (maps : List TimeMap)
    → HasLoops source (Time length_of_time maps)
    → AreTimeRanges (number_ranges source.params) (scheduled source maps) (time_ranges (number_ranges source.params) (scheduled source maps))

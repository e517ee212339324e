-- What the loops of a schedule's program run between: for each statement that can have instances, and each component of its time, rows
-- that are projected from its time set, or, where there are none for a cause, the range of its times alone.
use Rattle.std.specs.Prelude.{◌≡◌, ℕ, zero, suc, ℤ, List, [], ◌∷◌, ◌++◌, length, map}
use Rattle.affc_ast.specs.declared.tree.Program.{Program}
use Rattle.affc_trace.specs.declared.schedule.Schedule.{Schedule}
use Rattle.affc_trace.specs.declared.schedule.Schedule.TheVariants.{Source, Time}
use Rattle.affc_trace.specs.declared.schedule.TimeMap.{TimeMap}
use Rattle.affc_trace.specs.Target.{numbers_in}
use Rattle.affc_domain.specs.Ranges.{number_ranges}
use Rattle.affc_loops.specs.Between.{program_between}
use Rattle.affc_loops.specs.Ends.{Sides, ends_of}
use Rattle.affc_loops.specs.Loops.{Scheduled, scheduled, time_ranges}
use Rattle.affc_loopends.specs.declared.bounds.Bounds.{Bounds}
use Rattle.affc_loopends.specs.declared.bounds.Bounds.TheVariants.{Between, Loose as Without}
use Rattle.affc_loopends.specs.TimeRows.{system_of}
use Rattle.affc_loopends.specs.TimeSets.{timed_in}
use Rattle.affc_loopends.specs.Whys.{AreBoundsFrom}
use Rattle.affc_loopends.specs.declared.scanned.scanned.Loose.{Loose}
use Rattle.affc_loopends.specs.declared.scanned.scanned.Scanned.{Scanned}

-- ---- One statement

-- the rows of both ends; none where the component is loose
abbrev pub sides_of : Bounds → Sides
sides_of (Between lower upper) = (lower.items, upper.items)
sides_of (Without why) = ([], [])

-- the loose components among those from this one on
abbrev pub loose_from : (statement component : ℕ) → List Bounds → List Loose
loose_from statement component [] = []
loose_from statement component (Between lower upper ∷ bs) = loose_from statement (suc component) bs
loose_from statement component (Without why ∷ bs) = record { statement = statement; component = component; why = why } ∷ loose_from statement (suc component) bs

-- These are the bounds of each component of the statement's time, projected from its time set. The components of all statements' times have
-- these ranges.
pub record AreBounds (program : Program) (ranges : List (ℤ × ℤ)) (e : Scheduled) (bounds : List Bounds) : Type 0 where
  pub one_each : length bounds ≡ length e.times.forms
  pub projected : AreBoundsFrom (system_of (timed_in program e.around e.ranges e.times)) (numbers_in program.params) (number_ranges program.params ++ ranges) bounds

-- ---- All statements

abbrev pub AreBoundsOfEach : Program → (ranges : List (ℤ × ℤ)) → List Scheduled → List (List Bounds) → Type 0
AreBoundsOfEach program ranges [] [] = Unit {0}
AreBoundsOfEach program ranges [] (bs ∷ bss) = ⊥
AreBoundsOfEach program ranges (e ∷ es) [] = ⊥
AreBoundsOfEach program ranges (e ∷ es) (bs ∷ bss) = AreBounds program ranges e bs × AreBoundsOfEach program ranges es bss

abbrev pub all_loose : List Scheduled → List (List Bounds) → List Loose
all_loose (e ∷ es) (bs ∷ bss) = loose_from e.statement zero bs ++ all_loose es bss
all_loose _ _ = []

-- the rows of each statement's ends
abbrev pub all_sides : List (List Bounds) → List (List Sides)
all_sides = map (map sides_of)

-- The program runs between the ends of bounds of each statement's time, and these are the components that have none.
pub record IsBetween (program : Program) (maps : List TimeMap) (s : Scanned) : Type 0 where
  pub bounds : List (List Bounds)
  pub are_bounds : AreBoundsOfEach program (time_ranges (number_ranges program.params) (scheduled program maps)) (scheduled program maps) bounds
  pub is : s.program ≡ program_between program maps (ends_of program maps (all_sides bounds))
  pub loose : s.loose.items ≡ all_loose (scheduled program maps) bounds

-- For the source's own order it is the program itself.
abbrev pub Scans : Program → Schedule → Scanned → Type 0
Scans program Source s = (s.program ≡ program) × (s.loose.items ≡ [])
Scans program (Time length_of_time maps) s = IsBetween program maps s

-- The parts that can have instances, as a walk over the entries of a nest comes to them.
use Rattle.std.specs.Prelude.{ℕ, ◌≤◌, ℤ, if◌then◌else◌, List, [], ◌∷◌, ◌++◌, Option, Some, None, length, slice_get}
use Rattle.std.specs.List.{All}
use Rattle.affc_system.specs.Boxes.{IsBox}
use Rattle.affc_trace.specs.declared.schedule.TimeMap.{TimeMap}
use Rattle.affc_nest.specs.Sites.{Place}
use Rattle.affc_nest.specs.Sides.{IsSide, NearRanges}
use Rattle.affc_nest.specs.declared.nest.Entry.{Entry}
use Rattle.affc_loops.specs.Loops.{Scheduled}
use Rattle.affc_scan.specs.Blocks.{scheduled_of, IsPrintable}

abbrev pub box_of : Entry → Option (List (ℤ × ℤ))
box_of e = (if e.alive then Some e.ranges else None)

-- an entry of the nest, with the assignment of its statement and what stands round that, and with the statement's times
pub record Numbered : Type 0 where
  pub place : Place
  pub entry : Entry
  pub times : TimeMap

abbrev pub scheduled_in : Numbered → Scheduled
scheduled_in s = scheduled_of s.entry.statement s.place s.times s.entry.ranges

-- the entry, if it can have instances, where its statement has this place and these times
abbrev pub if_alive : Option Place → Entry → Option TimeMap → List Numbered
if_alive (Some p) e (Some m) = (if e.alive then record { place = p; entry = e; times = m } ∷ [] else [])
if_alive _ e _ = []

-- those of these entries that can have instances, each with the place and the times of its statement among these
abbrev pub numbered_in : List Place → List TimeMap → List Entry → List Numbered
numbered_in ps ms [] = []
numbered_in ps ms (e ∷ es) = if_alive (slice_get ps e.statement) e (slice_get ms e.statement) ++ numbered_in ps ms es

-- sizes within which the ranges of times are found
pub record HasSpans (params : List (ℤ × ℤ)) (e : Scheduled) : Type 0 where
  pub ordered : IsBox e.ranges
  pub few : length (params ++ e.ranges) ≤ 128
  pub near : NearRanges (params ++ e.ranges)
  pub sides : All (IsSide (length (params ++ e.ranges))) e.times.forms

-- each can be printed, where so many parameters are in sight
abbrev pub AllPrintable : (first : ℕ) → List Scheduled → Type 0
AllPrintable first [] = Unit {0}
AllPrintable first (e ∷ es) = IsPrintable first e × AllPrintable first es

-- each has ranges of times
abbrev pub AllSpan : (params : List (ℤ × ℤ)) → List Scheduled → Type 0
AllSpan params [] = Unit {0}
AllSpan params (e ∷ es) = HasSpans params e × AllSpan params es

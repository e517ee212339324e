-- What is gathered of statements: the ends of the loops round them, and the components that have none but their range.
use Rattle.std.specs.Prelude.{◌≡◌, ℕ, ◌+◌, ℤ, List, [], ◌∷◌, ◌++◌, length, map}
use Rattle.affc_nest.specs.declared.nest.Nest.{Nest}
use Rattle.affc_loops.specs.Ends.{joined, ends_from, both_ends, each_ends, all_ends}
use Rattle.affc_loops.specs.Loops.{times_of}
use Rattle.affc_loopends.specs.declared.bounds.Bounds.{Bounds}
use Rattle.affc_loopends.specs.Sizes.{IsTimed}
use Rattle.affc_loopends.specs.TimeRows.{time_system}
use Rattle.affc_loopends.specs.Whys.{AreBoundsFrom}
use Rattle.affc_loopends.specs.scanned.Scanned.{sides_of, loose_from, all_loose, all_sides}
use Rattle.affc_scan.specs.declared.gathered.Gathered.{Gathered}
use Rattle.affc_scan.specs.Numbered.{Numbered, scheduled_in, HasSpans}

-- what is asked of a statement, where the parameters and then the components of all statements' times have these ranges
pub record IsProjectable (nest : Nest) (ranges : List (ℤ × ℤ)) (s : Numbered) : Type 0 where
  pub timed : IsTimed nest s.entry s.times
  pub columns : length ranges ≡ length nest.params + length s.times.forms
  pub spans : HasSpans nest.params (scheduled_in s)

abbrev pub AllProjectable : Nest → (ranges : List (ℤ × ℤ)) → List Numbered → Type 0
AllProjectable nest ranges [] = Unit {0}
AllProjectable nest ranges (s ∷ ss) = IsProjectable nest ranges s × AllProjectable nest ranges ss

-- the bounds of each component of a statement's time
pub record AreBoundsOf (nest : Nest) (ranges : List (ℤ × ℤ)) (s : Numbered) (bounds : List Bounds) : Type 0 where
  pub one_each : length bounds ≡ length s.times.forms
  pub projected : AreBoundsFrom (time_system (length nest.params) s.entry.domain.rows s.times.forms s.times.inverse) (length nest.params) ranges bounds

abbrev pub AreBoundsOfAll : Nest → (ranges : List (ℤ × ℤ)) → List Numbered → List (List Bounds) → Type 0
AreBoundsOfAll nest ranges [] [] = Unit {0}
AreBoundsOfAll nest ranges [] (bs ∷ bss) = ⊥
AreBoundsOfAll nest ranges (s ∷ ss) [] = ⊥
AreBoundsOfAll nest ranges (s ∷ ss) (bs ∷ bss) = AreBoundsOf nest ranges s bs × AreBoundsOfAll nest ranges ss bss

-- of one statement, where so many parameters are in sight
pub record GathersOne (nest : Nest) (ranges : List (ℤ × ℤ)) (first : ℕ) (s : Numbered) (made : Gathered) : Type 0 where
  pub bounds : List Bounds
  pub are_bounds : AreBoundsOf nest ranges s bounds
  pub ends : made.ends ≡ ends_from first first (map sides_of bounds) (times_of nest.params (scheduled_in s))
  pub loose : made.loose.items ≡ loose_from s.entry.statement 0 bounds

-- of statements behind those before
pub record GathersMore (nest : Nest) (ranges : List (ℤ × ℤ)) (first : ℕ) (ss : List Numbered) (before made : Gathered) : Type 0 where
  pub bounds : List (List Bounds)
  pub are_bounds : AreBoundsOfAll nest ranges ss bounds
  pub ends : made.ends ≡ joined both_ends before.ends (each_ends first nest.params (map scheduled_in ss) (all_sides bounds))
  pub loose : made.loose.items ≡ before.loose.items ++ all_loose (map scheduled_in ss) bounds

-- of all statements
pub record Gathers (nest : Nest) (ranges : List (ℤ × ℤ)) (first : ℕ) (ss : List Numbered) (made : Gathered) : Type 0 where
  pub bounds : List (List Bounds)
  pub are_bounds : AreBoundsOfAll nest ranges ss bounds
  pub ends : made.ends ≡ all_ends (each_ends first nest.params (map scheduled_in ss) (all_sides bounds))
  pub loose : made.loose.items ≡ all_loose (map scheduled_in ss) bounds

-- What holds of time sets, their systems and the ends of their components.
use Rattle.std.specs.Prelude.{◌≡◌, ◌↔◌, ℕ, suc, List, ◌++◌, length, take, Some, slice_get, IsTrue, ℤ, pos, ◌≤ℤ◌}
use Rattle.std.specs.List.{All}
use Rattle.affc_rows.specs.Forms.{Affine}
use Rattle.affc_system.specs.Systems.{Rows}
use Rattle.affc_farkas.specs.Rational.{scaled_value}
use Rattle.affc_eliminate.specs.Points.{HoldAt}
use Rattle.affc_ast.specs.declared.tree.Instance.{Instance}
use Rattle.affc_ast.specs.declared.tree.Program.{Program}
use Rattle.affc_ast.specs.Trace.{trace}
use Rattle.affc_trace.specs.declared.schedule.Schedule.TheVariants.{Time}
use Rattle.affc_trace.specs.declared.schedule.TimeMap.{TimeMap}
use Rattle.affc_trace.specs.Law.{IsIn}
use Rattle.affc_trace.specs.Laws.{IsInContext}
use Rattle.affc_trace.specs.Target.{time_of, IsMapOf, IsScheduleOf}
use Rattle.affc_domain.specs.Ranges.{Within, number_ranges, ranges_of}
use Rattle.affc_domain.specs.Rounds.{Round, rounds, loops_in}
use Rattle.affc_nest.specs.Laws.{HasNest, IsEntry}
use Rattle.affc_nest.specs.declared.nest.Entry.{Entry}
use Rattle.affc_nest.specs.Nests.{nest_of}
use Rattle.affc_loopends.specs.declared.bounds.Bounds.{Bounds}
use Rattle.affc_loopends.specs.TimeSets.{Timed, IsShaped, IsTimePoint, ExtendsToTimePoint, timed_in}
use Rattle.affc_loopends.specs.TimeRows.{time_system, system_of}
use Rattle.affc_loopends.specs.Ends.{AreEnds, AreEndsFrom, LieBetween}
use Rattle.affc_loopends.specs.Whys.{AreBoundsFrom, AreBetween}

-- The rational points of a statement's system are its time points.
abbrev pub RowsAreExact : Type 0
RowsAreExact = (s : Timed) (x : List ℤ) (d : ℤ) → IsShaped s → length x ≡ (system_of s).columns → pos 1 ≤ℤ d → HoldAt x d (system_of s).rows ↔ IsTimePoint s x d

-- A statement of a program with a map of its schedule has a column for each parameter, and then for each iterator or component.
abbrev pub ProgramsAreShaped : Type 0
ProgramsAreShaped = (program : Program) (rs : List Round) (ranges : List (ℤ × ℤ)) (m : TimeMap) (components : ℕ)
    → IsMapOf (length (number_ranges program.params)) (loops_in rs) components m → ranges_of (number_ranges program.params) rs ≡ Within ranges → IsShaped (timed_in program rs ranges m)

-- The system that is made of an entry that is alive is that of its statement.
abbrev pub EntriesAreTimed : Type 0
EntriesAreTimed = (program : Program) (statement : ℕ) (e : Entry) (m : TimeMap) → HasNest program → IsEntry program statement e → IsTrue e.alive
    → (rs : List Round) × (ranges : List (ℤ × ℤ)) × (slice_get (rounds program) statement ≡ Some rs) × (ranges_of (number_ranges program.params) rs ≡ Within ranges)
    × (time_system (length (nest_of program).params) e.domain.rows m.forms m.inverse ≡ system_of (timed_in program rs ranges m))

-- Each instance of a statement at p of the context is, with its time, a time point.
abbrev pub InstancesAreTimePoints : Type 0
InstancesAreTimePoints = (program : Program) (components : ℕ) (maps : List TimeMap) (p : List ℤ) (b : Instance) (rs : List Round) (ranges : List (ℤ × ℤ)) (m : TimeMap)
    → HasNest program → IsScheduleOf program (Time components maps)
    → slice_get (rounds program) b.statement ≡ Some rs → ranges_of (number_ranges program.params) rs ≡ Within ranges → slice_get maps b.statement ≡ Some m
    → IsInContext program p → IsIn b (trace program p) → IsTimePoint (timed_in program rs ranges m) (p ++ time_of maps p b) (pos 1)

-- At each time point all rows of the ends hold.
abbrev pub EndsHold : Type 0
EndsHold = (s : Timed) (column : ℕ) (lower upper : List Affine) (x : List ℤ) (d : ℤ) → IsShaped s → AreEnds (system_of s) column lower upper → IsTimePoint s x d
    → All (λ r. pos 0 ≤ℤ scaled_value r (take (suc column) x) d) lower × All (λ r. pos 0 ≤ℤ scaled_value r (take (suc column) x) d) upper

-- Each turn between the ends extends to a time point, where the parameters do.
abbrev pub TurnsExtend : Type 0
TurnsExtend = (s : Timed) (ends : List (List Affine × List Affine)) (p ts : List ℤ) → IsShaped s → length p ≡ length s.params
    → AreEndsFrom (system_of s) (length p) ends → ExtendsToTimePoint s p → LieBetween ends p ts → ExtendsToTimePoint s (p ++ ts)

-- The components of each whole time point lie between the ends.
abbrev pub WholePointsLieBetween : Type 0
WholePointsLieBetween = (s : Timed) (ends : List (List Affine × List Affine)) (p ts : List ℤ) → IsShaped s → length ts ≡ length ends
    → AreEndsFrom (system_of s) (length p) ends → IsTimePoint s (p ++ ts) (pos 1) → LieBetween ends p ts

-- Where none is loose, they are the ends of one column after the other.
abbrev pub BoundsAreEnds : Type 0
BoundsAreEnds = (system : Rows) (column : ℕ) (ranges : List (ℤ × ℤ)) (bounds : List Bounds) (ends : List (List Affine × List Affine)) → AreBoundsFrom system column ranges bounds → AreBetween bounds ends → AreEndsFrom system column ends

-- What the systems of an order say.
use Rattle.std.specs.Prelude.{◌≡◌, ◌↔◌, ℤ, List, ◌++◌, length, IsTrue}
use Rattle.affc_system.specs.Systems.{Rows, IsPoint}
use Rattle.affc_ast.specs.declared.tree.Instance.{Instance}
use Rattle.affc_ast.specs.declared.tree.Program.{Program}
use Rattle.affc_ast.specs.Trace.{trace}
use Rattle.affc_trace.specs.declared.schedule.Schedule.{Schedule}
use Rattle.affc_trace.specs.Law.{IsIn}
use Rattle.affc_trace.specs.Orders.{Earlier}
use Rattle.affc_trace.specs.Target.{target, IsScheduleOf, within_limits}
use Rattle.affc_domain.specs.Ranges.{number_ranges}
use Rattle.affc_nest.specs.Laws.{HasNest}
use Rattle.affc_nest.specs.Nests.{nest_of}
use Rattle.affc_order.specs.Asked.{IsScheduled}
use Rattle.affc_order.specs.Posed.{Posed, IsPosed}
use Rattle.affc_order.specs.Systems.{source_order, target_order, source_systems, target_systems, turned_systems}

-- the point is one of some system's
pub record IsPointOfOne (systems : List Rows) (point : List ℤ) : Type 0 where
  pub system : Rows
  pub there : IsIn system systems
  pub meets : IsPoint system point

-- Where two instances of the trace are posed at a point whose first numbers are p, the point is one of the order's exactly
-- where the first is earlier in the trace.
abbrev pub SourceOrderIsTheTrace : Type 0
SourceOrderIsTheTrace = (program : Program) (p more : List ℤ) (a b : Posed) (i j : Instance)
    → HasNest program → IsIn i (trace program p) → IsIn j (trace program p) → IsPosed (p ++ more) a i → IsPosed (p ++ more) b j
    → IsPointOfOne (source_order (nest_of program) (length (p ++ more)) a b) (p ++ more) ↔ Earlier (trace program p) i j

-- The same in the target of a schedule.
abbrev pub TargetOrderIsTheTarget : Type 0
TargetOrderIsTheTarget = (program : Program) (schedule : Schedule) (p more : List ℤ) (a b : Posed) (i j : Instance)
    → HasNest program → IsScheduleOf program schedule → length p ≡ length (number_ranges program.params)
    → IsIn i (trace program p) → IsIn j (trace program p) → IsPosed (p ++ more) a i → IsPosed (p ++ more) b j
    → IsPointOfOne (target_order (nest_of program) schedule (length (p ++ more)) a b) (p ++ more) ↔ Earlier (target program schedule p) i j

-- what the systems of two statements say of an instance of each
pub record SystemsSay (program : Program) (schedule : Schedule) (p : List ℤ) (i j : Instance) : Type 0 where
  pub in_source : IsPointOfOne (source_systems (nest_of program) i.statement j.statement) (p ++ (i.iterators ++ j.iterators)) ↔ Earlier (trace program p) i j
  pub in_target : IsPointOfOne (target_systems (nest_of program) i.statement j.statement schedule) (p ++ (i.iterators ++ j.iterators)) ↔ Earlier (target program schedule p) i j
  pub turned_round : IsPointOfOne (turned_systems (nest_of program) i.statement j.statement schedule) (p ++ (i.iterators ++ j.iterators)) ↔ Earlier (target program schedule p) j i

-- The systems of two statements hold p and the iterators of an instance of each exactly where the first is earlier, or the second.
abbrev pub SystemsAreTheOrders : Type 0
SystemsAreTheOrders = (program : Program) (schedule : Schedule) (p : List ℤ) (i j : Instance)
    → HasNest program → IsScheduleOf program schedule → length p ≡ length (number_ranges program.params)
    → IsIn i (trace program p) → IsIn j (trace program p) → SystemsSay program schedule p i j

-- The nest of a program and a schedule of that program may be asked.
abbrev pub SchedulesAreAsked : Type 0
SchedulesAreAsked = (program : Program) (schedule : Schedule)
    → HasNest program → IsScheduleOf program schedule → IsTrue (within_limits schedule) → IsScheduled (nest_of program) schedule

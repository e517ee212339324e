-- What systems are asked of.
use Rattle.std.specs.Prelude.{◌≡◌, IsTrue}
use Rattle.affc_ast.specs.declared.tree.Program.{Program}
use Rattle.affc_trace.specs.declared.schedule.Schedule.{Schedule}
use Rattle.affc_trace.specs.Target.{IsScheduleOf, within_limits}
use Rattle.affc_nest.specs.declared.nest.Nest.{Nest}
use Rattle.affc_nest.specs.Laws.{HasNest}
use Rattle.affc_nest.specs.Nests.{nest_of}

-- the nest of a program that has one, and a schedule of that program within the limits of a schedule's text
pub record IsScheduled (nest : Nest) (schedule : Schedule) : Type 0 where
  pub program : Program
  pub has : HasNest program
  pub is : nest ≡ nest_of program
  pub fits : IsScheduleOf program schedule
  pub slight : IsTrue (within_limits schedule)

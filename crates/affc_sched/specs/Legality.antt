-- A nest and a schedule that may be asked whether they are legal.
use Rattle.affc_trace.specs.declared.schedule.Schedule.{Schedule}
use Rattle.affc_nest.specs.declared.nest.Nest.{Nest}
use Rattle.affc_nest.specs.Laws.{NamesArrays}
use Rattle.affc_order.specs.Asked.{IsScheduled}

-- a nest and a schedule that may be asked: each access of the program names an array
pub record IsAsked (nest : Nest) (schedule : Schedule) : Type 0 where
  pub scheduled : IsScheduled nest schedule
  pub named : NamesArrays scheduled.program

-- What the comparison is asked of.
use Rattle.std.specs.Prelude.{◌≡◌, ℤ, IsTrue, List, length}
use Rattle.affc_ast.specs.declared.tree.Instance.{Instance}
use Rattle.affc_ast.specs.declared.tree.Program.{Program}
use Rattle.affc_ast.specs.Trace.{trace}
use Rattle.affc_trace.specs.declared.schedule.Schedule.{Schedule}
use Rattle.affc_trace.specs.Law.{IsIn}
use Rattle.affc_trace.specs.Target.{IsScheduleOf, within_limits, numbers_in}
use Rattle.affc_domain.specs.Plain.{IsPlain}

-- two instances of a plain program at the values of its number parameters, and a schedule of that program within the
-- limits of a schedule's text
pub record AreAsked (program : Program) (schedule : Schedule) (p : List ℤ) (a b : Instance) : Type 0 where
  pub plain : IsPlain program
  pub fits : IsScheduleOf program schedule
  pub slight : IsTrue (within_limits schedule)
  pub numbers : length p ≡ numbers_in program.params
  pub first : IsIn a (trace program p)
  pub second : IsIn b (trace program p)

-- What is compiled.
use Rattle.std.specs.Prelude.{◌≡◌, IsTrue}
use Rattle.affc_ast.specs.declared.tree.Program.{Program}
use Rattle.affc_trace.specs.Target.{IsScheduleOf, within_limits}
use Rattle.affc_domain.specs.Plain.{IsPlain}
use Rattle.affc_nest.specs.declared.nest.Nest.{Nest}
use Rattle.affc_nest.specs.Laws.{NamesArrays}
use Rattle.affc_nest.specs.Nests.{nest_of}
use Rattle.affc_bounds.specs.Faults.{StaysWithin}
use Rattle.affc_schedtext.specs.declared.plan.Plan.{Plan}

-- a plain program that keeps to its arrays, its nest, and a plan whose schedule is one of it
pub record IsCompilation (program : Program) (nest : Nest) (plan : Plan) : Type 0 where
  pub plain : IsPlain program
  pub arrays : NamesArrays program
  pub is : nest ≡ nest_of program
  pub within : StaysWithin program
  pub fits : IsScheduleOf program plan.schedule
  pub slight : IsTrue (within_limits plan.schedule)

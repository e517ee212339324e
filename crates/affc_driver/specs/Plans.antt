-- The plan of a compilation, when its order is legal, and when each load of a temporary is written before.
use Rattle.std.specs.Prelude.{◌≡◌, ℕ, ℤ, List, [], Option, Some, None}
use Rattle.affc_ast.specs.declared.tree.Program.{Program}
use Rattle.affc_trace.specs.declared.schedule.Schedule.{Schedule}
use Rattle.affc_trace.specs.declared.schedule.Schedule.TheVariants.{Source}
use Rattle.affc_trace.specs.Dataflow.{Legal}
use Rattle.affc_trace.specs.Laws.{IsInContext}
use Rattle.affc_safe.specs.Safe.{LoadsWritten}
use Rattle.affc_schedtext.specs.declared.plan.Plan.{Plan}
use Rattle.affc_schedtext.specs.Answers.{PlanReads}

-- the source's own order, and no fold
abbrev pub as_it_stands : Plan
as_it_stands = record { schedule = Source; folds = [] }

-- The schedule's text reads as the plan. Without a text everything stays as it stands.
abbrev pub HasPlan : Program → (schedule : Option (List ℕ)) → Plan → Type 0
HasPlan program None plan = plan ≡ as_it_stands
HasPlan program (Some text) plan = PlanReads text program plan

-- at no p of the context a dependence is turned round
abbrev pub LegalThroughout : Program → Schedule → Type 0
LegalThroughout program schedule = (p : List ℤ) → IsInContext program p → Legal program schedule p

-- at each p of the context, each load of a temporary has a source: an instance before it that stores what it reads
abbrev pub WrittenThroughout : Program → Type 0
WrittenThroughout program = (p : List ℤ) → IsInContext program p → LoadsWritten program p

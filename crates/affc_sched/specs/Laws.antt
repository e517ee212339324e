-- What the questions on a schedule decide.
use Rattle.std.specs.Prelude.{◌≡◌, ◌↔◌, ℤ, List, ◌++◌, length, take, drop}
use Rattle.affc_system.specs.Boxes.{InBox}
use Rattle.affc_system.specs.Systems.{IsPoint, HasNoPoint}
use Rattle.affc_ast.specs.declared.tree.Instance.{Instance}
use Rattle.affc_ast.specs.declared.tree.Program.{Program}
use Rattle.affc_trace.specs.declared.schedule.Schedule.{Schedule}
use Rattle.affc_trace.specs.Dataflow.{Legal, Violates}
use Rattle.affc_trace.specs.Law.{IsIn}
use Rattle.affc_trace.specs.Laws.{IsInContext}
use Rattle.affc_trace.specs.Target.{IsScheduleOf}
use Rattle.affc_nest.specs.declared.nest.Nest.{Nest}
use Rattle.affc_nest.specs.Laws.{HasNest, NamesArrays}
use Rattle.affc_nest.specs.Nests.{nest_of}
use Rattle.affc_nest.specs.Parts.{statement_of}
use Rattle.affc_order.specs.Systems.{loops_of, coordinates_of}
use Rattle.affc_sched.specs.Questions.{Question, legality_questions}

-- ---- What stands at a point of a question

module _ (nest : Nest) (q : Question) (point : List ℤ) where
  abbrev pub parameters_at : List ℤ
  parameters_at = take (length nest.params) point

  abbrev pub first_at : Instance
  first_at = record { statement = statement_of nest q.first; iterators = take (length (loops_of nest q.first)) (drop (length nest.params) point) }

  abbrev pub second_at : Instance
  second_at = record { statement = statement_of nest q.second; iterators = take (length (loops_of nest q.second)) (drop (coordinates_of nest q.first) (drop (length nest.params) point)) }

-- A point of a question is a violation: at its parameters, which are in the context, the second instance depends on the
-- first, and the schedule doesn't run it later.
abbrev pub PointsViolate : Type 0
PointsViolate = (program : Program) (schedule : Schedule) (q : Question) (point : List ℤ)
    → HasNest program → NamesArrays program → IsScheduleOf program schedule
    → IsIn q (legality_questions (nest_of program) schedule) → IsPoint q.system point
    → IsInContext program (parameters_at (nest_of program) q point)
    × Violates program schedule (parameters_at (nest_of program) q point) (first_at (nest_of program) q point) (second_at (nest_of program) q point)

-- the question that a violation answers
pub record Answers (program : Program) (schedule : Schedule) (p : List ℤ) (a b : Instance) : Type 0 where
  pub question : Question
  pub asked : IsIn question (legality_questions (nest_of program) schedule)
  pub first : question.first ≡ a.statement
  pub second : question.second ≡ b.statement
  pub point : IsPoint question.system (p ++ (a.iterators ++ b.iterators))

-- Each violation at some p of the context is a point of a question.
abbrev pub ViolationsArePoints : Type 0
ViolationsArePoints = (program : Program) (schedule : Schedule) (p : List ℤ) (a b : Instance)
    → HasNest program → NamesArrays program → IsScheduleOf program schedule → IsInContext program p
    → Violates program schedule p a b → Answers program schedule p a b

-- ---- All questions

abbrev pub NoneHasAPoint : List Question → Type 0
NoneHasAPoint questions = (q : Question) → IsIn q questions → HasNoPoint q.system

-- No question has a point exactly where the schedule is legal throughout the context.
abbrev pub QuestionsDecide : Type 0
QuestionsDecide = (program : Program) (schedule : Schedule)
    → HasNest program → NamesArrays program → IsScheduleOf program schedule
    → NoneHasAPoint (legality_questions (nest_of program) schedule) ↔ ((p : List ℤ) → IsInContext program p → Legal program schedule p)

-- A point of a question lies in its ranges.
abbrev pub PointsAreBoxed : Type 0
PointsAreBoxed = (program : Program) (schedule : Schedule) (q : Question) (point : List ℤ)
    → HasNest program → NamesArrays program → IsScheduleOf program schedule
    → IsIn q (legality_questions (nest_of program) schedule) → IsPoint q.system point → InBox q.ranges point

-- What it means that a schedule of a nest is legal or isn't, and what shows it.
use Rattle.std.specs.Prelude.{◌≡◌, ℤ, List, [], ◌∷◌}
use Rattle.std.specs.List.{All}
use Rattle.affc_system.specs.Systems.{IsRow}
use Rattle.affc_ast.specs.declared.tree.Instance.{Instance}
use Rattle.affc_ast.specs.declared.tree.Program.{Program}
use Rattle.affc_farkas.specs.declared.proof.Proof.{Proof}
use Rattle.affc_farkas.specs.Proofs.{ValidProof}
use Rattle.affc_leaf.specs.Boxed.{with_box}
use Rattle.affc_trace.specs.declared.schedule.Schedule.{Schedule}
use Rattle.affc_trace.specs.Dataflow.{Legal}
use Rattle.affc_trace.specs.Laws.{IsInContext}
use Rattle.affc_trace.specs.Target.{IsScheduleOf}
use Rattle.affc_nest.specs.declared.nest.Nest.{Nest}
use Rattle.affc_nest.specs.Laws.{HasNest, NamesArrays}
use Rattle.affc_nest.specs.Nests.{nest_of}
use Rattle.affc_sched.specs.Questions.{Question, legality_questions}
use Rattle.affc_legal.specs.Violations.{IsFirstViolation}

-- a program whose nest and schedule these are
pub record IsFor (program : Program) (nest : Nest) (schedule : Schedule) : Type 0 where
  pub has : HasNest program
  pub named : NamesArrays program
  pub is : nest ≡ nest_of program
  pub fits : IsScheduleOf program schedule

-- throughout the context no dependence is turned round
abbrev pub IsLegal : Nest → Schedule → Type 0
IsLegal nest schedule = (program : Program) → IsFor program nest schedule → (p : List ℤ) → IsInContext program p → Legal program schedule p

-- the first dependence that is turned round
abbrev pub IsFirstIllegal : Nest → Schedule → (p : List ℤ) → (a b : Instance) → Type 0
IsFirstIllegal nest schedule p a b = (program : Program) → IsFor program nest schedule → IsFirstViolation program schedule p a b

-- a valid proof for each question, in order, for its system with the rows of its ranges
abbrev pub AreProofs : List Question → List Proof → Type 0
AreProofs [] [] = Unit {0}
AreProofs [] (p ∷ ps) = ⊥
AreProofs (q ∷ qs) [] = ⊥
AreProofs (q ∷ qs) (p ∷ ps) = ValidProof (with_box q.system q.ranges) p × AreProofs qs ps

-- the rows of each question are those of a system
abbrev pub AreSystems : List Question → Type 0
AreSystems [] = Unit {0}
AreSystems (q ∷ qs) = All (IsRow q.system.columns) q.system.rows × AreSystems qs

-- Valid proofs of all questions show that the schedule is legal throughout the context.
abbrev pub ProofsShowLegality : Type 0
ProofsShowLegality = (program : Program) (schedule : Schedule) (proofs : List Proof)
    → HasNest program → NamesArrays program → IsScheduleOf program schedule
    → AreSystems (legality_questions (nest_of program) schedule) → AreProofs (legality_questions (nest_of program) schedule) proofs
    → (p : List ℤ) → IsInContext program p → Legal program schedule p

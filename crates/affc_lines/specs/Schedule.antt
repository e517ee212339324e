-- The lines that say what is wrong with a schedule.
use Rattle.std.specs.Prelude.{◌≡◌, ℕ, ℤ, List, ◌++◌, Option, codes, decimal}
use Rattle.affc_ast.specs.declared.tree.Instance.{Instance}
use Rattle.affc_ast.specs.declared.tree.Program.{Program}
use Rattle.affc_schedtext.specs.declared.plan.SchedFault.{SchedFault}
use Rattle.affc_schedtext.specs.declared.plan.SchedFault.TheVariants.{Memory, Syntax, Statement, Length, Fold, Limit, Inverse, Basis}
use Rattle.affc_driver.specs.Refusals.{HasSchedFault, IsIllegal}
use Rattle.affc_lines.specs.Stuck.{array_name, numbers_text, instance_text}

-- what is said of a schedule at a place
abbrev pub schedule_line : (place : ℕ) → (words : List ℕ) → List ℕ
schedule_line place words = codes "affc: schedule at " ++ decimal place ++ codes ": " ++ words

-- what is said of a schedule that is no plan of the program
abbrev pub sched_line : Program → SchedFault → List ℕ
sched_line program Memory = codes "affc: memory"
sched_line program (Syntax place) = schedule_line place (codes "syntax")
sched_line program (Statement place) = schedule_line place (codes "statement")
sched_line program (Length place) = schedule_line place (codes "length")
sched_line program (Fold place) = schedule_line place (codes "fold")
sched_line program (Limit place) = schedule_line place (codes "limit")
sched_line program (Inverse statement component) = codes "affc: schedule: inverse of S" ++ decimal statement ++ codes " component " ++ decimal component
sched_line program (Basis array component) = codes "affc: schedule: basis of " ++ array_name program array.0 ++ codes " component " ++ decimal component

-- what is said of a schedule that turns a dependence round: `affc: illegal at N=1 M=2: S0(1) before S1(0)`
abbrev pub illegal_line : Program → (p : List ℤ) → (a b : Instance) → List ℕ
illegal_line program p a b =
    codes "affc: illegal" ++ numbers_text (codes " at ") program.params p ++ codes ": " ++ instance_text a ++ codes " before " ++ instance_text b

-- the schedule is no plan of the source, as the line says
pub record IsSchedLine (source : List ℕ) (schedule : Option (List ℕ)) (line : List ℕ) : Type 0 where
  pub fault : SchedFault
  pub of : HasSchedFault source schedule fault
  pub its_line : line ≡ sched_line of.tree fault

-- the schedule turns a dependence round, as the line says
pub record IsIllegalLine (source : List ℕ) (schedule : Option (List ℕ)) (line : List ℕ) : Type 0 where
  pub p : List ℤ
  pub a : Instance
  pub b : Instance
  pub says : IsIllegal source schedule p a b
  pub its_line : line ≡ illegal_line says.of.tree p a b

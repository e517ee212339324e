-- The texts of a program, and what holds of each of them, and of each schedule that has a plan.
use Rattle.std.specs.Prelude.{◌≡◌, ℕ, false, List, Option}
use Rattle.affc_ast.specs.declared.tree.Program.{Program}
use Rattle.affc_grammar.specs.Reads.{Reads}
use Rattle.affc_plain.specs.Laws.{IsBare}
use Rattle.affc_schedtext.specs.declared.plan.Plan.{Plan}
use Rattle.affc_driver.specs.Plans.{HasPlan}

-- the text reads as the program, which is without the prelude
pub record IsRead (text : List ℕ) (program : Program) : Type 0 where
  pub reads : Reads text program
  pub bare : IsBare program

-- some text does
abbrev pub IsOfText : Program → Type 0
IsOfText program = (text : List ℕ) × IsRead text program

-- it holds of each text that reads as the program, which is without the prelude
abbrev pub OfEachText : Program → (List ℕ → Type 0) → Type 0
OfEachText program P = (text : List ℕ) → Reads text program → IsBare program → P text

-- it holds of each such text with each schedule of which this is the plan
abbrev pub OfEachPlan : Program → Plan → ((text : List ℕ) (schedule : Option (List ℕ)) → Type 0) → Type 0
OfEachPlan program plan P = (schedule : Option (List ℕ)) → HasPlan program schedule plan → OfEachText program (λ text. P text schedule)

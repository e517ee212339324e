-- What is told of a pipeline of many stages.
use Rattle.std.specs.Prelude.{◌≡◌, ◌+◌, ◌++◌, ℕ, List, Some, None, codes, decimal}
use Rattle.affc_generate.specs.Stages.{source, schedule, whole}
use Rattle.affc_words.specs.declared.words.CostName.TheVariants.{Words}
use Rattle.affc_words.specs.declared.words.Settings.{Settings}
use Rattle.affc_cli.specs.Budgets.{FoldsWithin}
use Rattle.affc_cli.specs.Refusal.{TextCause}
use Rattle.affc_lines.specs.declared.refusal.Refusal.{Refusal}

-- no budget, and the cost by words
abbrev pub plain : Settings
plain = record { budget = None; cost = Words }

-- `whole 8072`
abbrev pub count_line : (words : List ℕ) → (count : ℕ) → List ℕ
count_line words count = words ++ codes " " ++ decimal count ++ codes "\n"

-- How many stages and statements there are, what the temporaries take where each is left whole, and what they take folded.
abbrev pub summary : (stages folded : ℕ) → List ℕ
summary stages folded =
    count_line (codes "stages") stages ++ count_line (codes "statements") (stages + 1) ++ count_line (codes "whole") (whole stages) ++ count_line (codes "folded") folded

-- The text sums up what is made of the pipeline of so many stages: its folds cost so much together.
pub record SumsUp (stages : ℕ) (text : List ℕ) : Type 0 where
  pub printed : List ℕ
  pub told : List ℕ
  pub cost : ℕ
  pub folds_to : FoldsWithin (source stages) (Some (schedule stages)) plain printed told cost
  pub summed : text ≡ summary stages cost

-- When it is refused so: as `fold` refuses its source and its schedule without a budget.
abbrev pub BigCause : (stages : ℕ) → Refusal → Type 0
BigCause stages refusal = TextCause (source stages) (Some (schedule stages)) plain refusal

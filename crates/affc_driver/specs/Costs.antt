-- What folds cost together.
use Rattle.std.specs.Prelude.{ℕ, List, Option, Some, None}
use Rattle.std.specs.List.{sum_by}
use Rattle.affc_ast.specs.declared.tree.ArrayId.{ArrayId}
use Rattle.affc_basis.specs.declared.fold.Fold.{Fold}
use Rattle.affc_weigh.specs.declared.choice.Choice.{Choice}
use Rattle.affc_weigh.specs.Choices.{choice_of}
use Rattle.affc_weigh.specs.Costs.{stopped}

-- the cost of a fold by its choice, and nothing without one
abbrev pub cost_in : Option Choice → ℕ
cost_in None = 0
cost_in (Some choice) = choice.cost

-- the sum of what the folds cost, which stops at the greatest number of 128 bits
abbrev pub total_cost : List (ArrayId × Fold) → List (ArrayId × Choice) → ℕ
total_cost folds choices = stopped (sum_by (λ f. cost_in (choice_of choices f.0.0)) folds)

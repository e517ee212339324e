use Rattle.std.proofs.Common.{ℕ, ◌<◌, ◌≤◌}
use Rattle.std.specs.List.{All, Contains}
use Rattle.affc_eliminate.proofs.project.elimination.columns_from.Given as goal

abbrev pub invariant-loop-column : goal.invariant-loop-column
invariant-loop-column l = record {
  inside : All (λ c. (l.first ≤ c) × (c < l.column)) l.left.items;
  all : (j : ℕ) → l.first ≤ j → j < l.column → Contains l.left.items j;
}

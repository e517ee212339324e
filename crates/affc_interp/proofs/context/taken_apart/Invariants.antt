use Rattle.std.proofs.Common.{◌≡◌, ◌<◌, ◌≤◌, ℤ, List}
use Rattle.std.specs.List.{All}
use Rattle.affc_ast.specs.Fits.{whole_of}
use Rattle.affc_ast.specs.Index.{nodes_of_ix}
use Rattle.affc_interp.specs.Operands.{operators}
use Rattle.affc_interp.specs.Steps.{all_made, right_nodes}
use Rattle.affc_interp.proofs.context.taken_apart.Given as goal

abbrev pub invariant-loop-a : goal.invariant-loop-a
invariant-loop-a l = record {
  value : (names : List ℤ) → whole_of l.fn.e names ≡ all_made l.steps.items names (whole_of l.atom names);
  smaller : All (λ s. right_nodes s < nodes_of_ix l.fn.e) l.steps.items;
  within : nodes_of_ix l.atom ≤ nodes_of_ix l.fn.e;
}

abbrev pub decreases-loop-a : goal.decreases-loop-a
decreases-loop-a l = operators l.atom

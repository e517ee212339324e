use Rattle.std.proofs.Common.{◌≡◌, ◌+◌, ◌*◌, ◌<◌, length}
use Rattle.std.specs.List.{All}
use Rattle.affc_ast.specs.Fits.{whole_of}
use Rattle.affc_ast.specs.Index.{nodes_of_ix}
use Rattle.affc_interp.specs.Steps.{number, all_made, right_nodes}
use Rattle.affc_interp.proofs.context.+whole.Given as goal

abbrev pub decreases-whole : goal.decreases-whole
decreases-whole l = 2 * nodes_of_ix l.e.now

abbrev pub decreases-made : goal.decreases-made
decreases-made l = 2 * right_nodes l.step + 1

abbrev pub invariant-whole-loop-step : goal.invariant-whole-loop-step
invariant-whole-loop-step l = record {
  value : whole_of l.fn.e l.fn.names ≡ all_made l.steps.items l.fn.names (number l.value);
  smaller : All (λ s. right_nodes s < nodes_of_ix l.fn.e) l.steps.items;
}

abbrev pub decreases-whole-loop-step : goal.decreases-whole-loop-step
decreases-whole-loop-step l = length l.steps.items

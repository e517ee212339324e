use Rattle.std.proofs.Common.{◌≡◌, ◌≤◌, length, map, drop}
use Rattle.serde_json.specs.View.{view}
use Rattle.affc_cert.specs.tree.Stacks.{tree_stack_nodes}
use Rattle.affc_cert.proofs.tree.build.from_nodes.Given as goal

abbrev pub invariant-loop-i : goal.invariant-loop-i
invariant-loop-i l =
    record {
      within : l.i ≤ length l.nodes;
      built : tree_stack_nodes l.stack.items ≡ map view (drop l.i l.nodes);
    }

abbrev pub decreases-loop-i : goal.decreases-loop-i
decreases-loop-i l = l.i

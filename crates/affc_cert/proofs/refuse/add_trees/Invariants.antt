use Rattle.std.proofs.Common.{◌≡◌, ◌≤◌, ◌++◌, length, drop}
use Rattle.serde_json.specs.View.{items_view}
use Rattle.affc_cert.specs.tree.Trees.{tree}
use Rattle.affc_cert.specs.Refusals.{each_by}
use Rattle.affc_cert.proofs.refuse.add_trees.Given as goal

abbrev pub invariant-loop-i : goal.invariant-loop-i
invariant-loop-i l =
    record {
      within : l.i ≤ length l.items;
      same : l.verdicts.items ++ each_by tree (drop l.i l.loads) (items_view (drop l.i l.items)) ≡ l.initial.verdicts.items ++ each_by tree l.loads (items_view l.items);
    }

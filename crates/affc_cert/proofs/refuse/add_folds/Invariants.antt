use Rattle.std.proofs.Common.{◌≡◌, ◌≤◌, ◌++◌, length, drop}
use Rattle.serde_json.specs.View.{items_view}
use Rattle.affc_certvalue.specs.fold.Folds.{fold}
use Rattle.affc_cert.specs.Refusals.{each_by}
use Rattle.affc_cert.proofs.refuse.add_folds.Given as goal

abbrev pub invariant-loop-i : goal.invariant-loop-i
invariant-loop-i l =
    record {
      within : l.i ≤ length l.items;
      same : l.verdicts.items ++ each_by (fold l.parameters) (drop l.i l.temporaries) (items_view (drop l.i l.items)) ≡ l.initial.verdicts.items ++ each_by (fold l.parameters) l.temporaries (items_view l.items);
    }

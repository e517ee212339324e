use Rattle.std.proofs.Common.{◌≡◌, map, take}
use Rattle.serde_json.specs.View.{view}
use Rattle.affc_certvalue.specs.fold.Values.{fold_value}
use Rattle.affc_certvalue.specs.fold.Entries.{entry_of}
use Rattle.affc_certvalue.proofs.fold.write.folds.Given as goal

abbrev pub invariant-loop-item : goal.invariant-loop-item
invariant-loop-item l = map view l.values.items ≡ map fold_value (map entry_of (take l.item-index l.folds))

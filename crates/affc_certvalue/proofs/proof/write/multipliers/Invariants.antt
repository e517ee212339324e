use Rattle.std.proofs.Common.{◌≡◌, map, take}
use Rattle.serde_json.specs.View.{view}
use Rattle.affc_certvalue.specs.proof.Values.{pair_value}
use Rattle.affc_certvalue.proofs.proof.write.multipliers.Given as goal

abbrev pub invariant-loop-item : goal.invariant-loop-item
invariant-loop-item l = map view l.values.items ≡ map pair_value (take l.item-index l.pairs)

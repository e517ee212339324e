use Rattle.std.proofs.Common.{◌≡◌, map, take}
use Rattle.serde_json.specs.View.{view}
use Rattle.affc_certvalue.specs.fold.Values.{modulus_value}
use Rattle.affc_certvalue.proofs.fold.write.moduli_list.Given as goal

abbrev pub invariant-loop-item : goal.invariant-loop-item
invariant-loop-item l = map view l.values.items ≡ map modulus_value (take l.item-index l.moduli)

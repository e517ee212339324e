use Rattle.std.proofs.Common.{◌≡◌, map, take}
use Rattle.serde_json.specs.View.{view}
use Rattle.affc_certvalue.specs.fold.Values.{modulus_value}
use Rattle.affc_certvalue.proofs.fold.build.moduli_among.Given as goal

abbrev pub invariant-loop-value : goal.invariant-loop-value
invariant-loop-value l = map modulus_value l.moduli ≡ map view (take l.value-index l.items)

use Rattle.std.proofs.Common.{◌≡◌, map, take}
use Rattle.serde_json.specs.View.{view}
use Rattle.affc_certvalue.specs.Values.{whole_value}
use Rattle.affc_certvalue.proofs.build.wholes.Given as goal

abbrev pub invariant-loop-value : goal.invariant-loop-value
invariant-loop-value l = map whole_value l.numbers.items ≡ map view (take l.value-index l.items)

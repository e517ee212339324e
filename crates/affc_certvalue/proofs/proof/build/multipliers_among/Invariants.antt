use Rattle.std.proofs.Common.{◌≡◌, map, take}
use Rattle.serde_json.specs.View.{view}
use Rattle.affc_certvalue.specs.proof.Values.{pair_value}
use Rattle.affc_certvalue.proofs.proof.build.multipliers_among.Given as goal

abbrev pub invariant-loop-value : goal.invariant-loop-value
invariant-loop-value l = map pair_value l.by ≡ map view (take l.value-index l.items)

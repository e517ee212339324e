use Rattle.std.proofs.Common.{◌≡◌, map, take}
use Rattle.serde_json.specs.View.{view}
use Rattle.affc_certvalue.specs.proof.Values.{proof_value}
use Rattle.affc_certvalue.specs.proof.Proofs.{steps_of}
use Rattle.affc_cert.proofs.json.proofs_among.Given as goal

abbrev pub invariant-loop-value : goal.invariant-loop-value
invariant-loop-value l = map proof_value (map steps_of l.proofs) ≡ map view (take l.value-index l.items)

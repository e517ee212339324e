use Rattle.std.proofs.Common.{◌≡◌, map, take}
use Rattle.serde_json.specs.View.{view}
use Rattle.affc_certvalue.specs.proof.Values.{proof_value}
use Rattle.affc_certvalue.specs.proof.Proofs.{steps_of}
use Rattle.affc_cert.proofs.json.proofs_to_value.Given as goal

abbrev pub invariant-loop-proof : goal.invariant-loop-proof
invariant-loop-proof l = map view l.values.items ≡ map proof_value (map steps_of (take l.proof-index l.proofs))

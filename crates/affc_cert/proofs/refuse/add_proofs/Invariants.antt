use Rattle.std.proofs.Common.{◌≡◌, ◌++◌, take}
use Rattle.serde_json.specs.View.{items_view}
use Rattle.affc_certvalue.specs.proof.Verdicts.{proof}
use Rattle.affc_cert.specs.Refusals.{each}
use Rattle.affc_cert.proofs.refuse.add_proofs.Given as goal

abbrev pub invariant-loop-value : goal.invariant-loop-value
invariant-loop-value l = l.verdicts.items ≡ l.initial.verdicts.items ++ each proof (items_view (take l.value-index l.items))

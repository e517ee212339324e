use Rattle.std.proofs.Common.{◌≡◌, drop, None, true}
use Rattle.serde_json.specs.View.{items_view}
use Rattle.affc_certvalue.specs.proof.Verdicts.{order_from}
use Rattle.affc_certvalue.proofs.proof.judge.order_verdict.Given as goal

abbrev pub invariant-loop-value : goal.invariant-loop-value
invariant-loop-value l = order_from l.last l.rises (items_view (drop l.value-index l.items)) ≡ order_from None true (items_view l.items)

use Rattle.affc_order.proofs.CodeLemmas.{shared_past, shared_apart}
use Rattle.affc_order.proofs.order.shared.Goals as goal
use Rattle.affc_order.proofs.order.shared.Goals.{then-i-ms-via-then-i-ms, then-i-ms-via-else-i-ms+then-ms-i}

pub returns-then-i-ms-clause-value : goal.returns-then-i-ms-clause-value
returns-then-i-ms-clause-value c = elim c.then-i-ms.branch [
  | then-i-ms-via-then-i-ms w ↦ shared_past c.args.ls.now c.args.ms.now c.loop-i.i _ w.if-i-ms.true c.loop-i.invariant.rest
  | then-i-ms-via-else-i-ms+then-ms-i w ↦ shared_apart c.args.ls.now c.args.ms.now c.loop-i.i _ c.loop-i-test.true w.if-i-ms.false w.if-ms-i.true c.loop-i.invariant.rest
]

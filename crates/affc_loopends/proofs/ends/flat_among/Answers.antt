use Rattle.std.proofs.Common.{ap, ◌∙◌, arith}
use Rattle.affc_loopends.proofs.Remaining.{one_flat, same_flat}
use Rattle.affc_loopends.proofs.ends.flat_among.Goals as goal
use Rattle.affc_loopends.proofs.ends.flat_among.Goals.{then-len-lt-MOST_FLAT+then-is_flat+in_ok-copy+in_ok-push, else-len-lt-MOST_FLAT}

pub loop-row-preserved : goal.loop-row-preserved
loop-row-preserved c = elim c.if-len-lt-MOST_FLAT.branch [
  | then-len-lt-MOST_FLAT+then-is_flat+in_ok-copy+in_ok-push w ↦
      one_flat c.args.column c.args.ranges.now c.args.rows.now c.loop-row.flat.items c.if-len-lt-MOST_FLAT.flat.items c.loop-row.row-index c.row-item.result w.in_ok-copy.copy c.loop-row.invariant
      (omega (arith, c.loop-row.flat.ok, c.len.ensures, w.if-len-lt-MOST_FLAT.true)) c.loop-row-test.true c.row-item.is w.in_ok-copy.ensures.cases (w.is_flat.ensures.flat w.if-is_flat.true) (w.is_flat.ensures.modest w.if-is_flat.true)
      (ap (λ v. v.items) w.flat-is ∙ w.in_ok-push.ensures.items)
  | else-len-lt-MOST_FLAT w ↦ same_flat c.args.column c.args.ranges.now c.args.rows.now c.loop-row.flat.items c.if-len-lt-MOST_FLAT.flat.items c.loop-row.invariant (ap (λ v. v.items) w.flat-is)
]

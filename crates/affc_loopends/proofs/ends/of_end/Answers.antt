use Rattle.std.proofs.Common.{ap, sym, ◌∙◌, ◌++◌, ◌∷◌, [], true≢false}
use Rattle.affc_loopends.proofs.Chosen.{chosen_step, skipped_step}
use Rattle.affc_loopends.proofs.ends.of_end.Goals as goal
use Rattle.affc_loopends.proofs.ends.of_end.Goals.{then-bounds+in_ok-copy+in_ok-push, else-bounds}

pub loop-row-preserved : goal.loop-row-preserved
loop-row-preserved c = elim c.if-bounds.branch [
  | then-bounds+in_ok-copy+in_ok-push w ↦
      chosen_step c.args.lower c.args.column c.args.rows.now c.loop-row.row-index c.row-item.result c.loop-row.chosen.items c.if-bounds.chosen.items c.loop-row-test.true c.row-item.is c.loop-row.invariant (c.bounds.ensures.0 w.if-bounds.true)
      (ap (λ v. v.items) w.chosen-is ∙ w.in_ok-push.ensures.items ∙ ap (λ q. c.loop-row.chosen.items ++ q ∷ []) w.in_ok-copy.ensures.cases)
  | else-bounds w ↦
      skipped_step c.args.lower c.args.column c.args.rows.now c.loop-row.row-index c.row-item.result c.loop-row.chosen.items c.if-bounds.chosen.items c.loop-row-test.true c.row-item.is c.loop-row.invariant
      (λ b. true≢false (sym (c.bounds.ensures.1 b) ∙ w.if-bounds.false)) (ap (λ v. v.items) w.chosen-is)
]

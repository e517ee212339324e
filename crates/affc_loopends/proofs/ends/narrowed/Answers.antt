use Rattle.affc_loopends.proofs.Chosen.{enough_step, kept_printable, kept_one_end}
use Rattle.affc_loopends.proofs.ends.narrowed.Goals as goal

pub with_row-requires-clause-kept : goal.with_row-requires-clause-kept
with_row-requires-clause-kept c = kept_printable c.args.columns c.args.rows.now c.loop-row.row-index c.loop-row.kept.items c.requires.printable c.loop-row.invariant

pub returns-in-Err-clause-stop : goal.returns-in-Err-clause-stop
returns-in-Err-clause-stop c = λ system column ranges width ends.
    c.in-Err.ensures.stop system column ranges width
    (kept_one_end system column c.args.columns c.args.rows.now c.loop-row.row-index c.row-item.result c.in-Ok.copy c.loop-row.kept.items c.loop-row-test.true c.row-item.is c.in-Ok.ensures.cases ends c.loop-row.invariant)

pub loop-row-preserved : goal.loop-row-preserved
loop-row-preserved c =
    enough_step c.args.columns c.args.rows.now c.loop-row.row-index c.row-item.result c.in-Ok.copy c.loop-row.kept.items c.in-Ok-with_row.next.items c.loop-row-test.true c.row-item.is c.in-Ok.ensures.cases c.loop-row.invariant
    c.in-Ok-with_row.ensures.ok

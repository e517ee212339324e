use Rattle.affc_wellnamed.proofs.Shapes.{all_arm, any_arm, entry_step}
use Rattle.affc_wellnamed.proofs.shape.+conditions.Goals as goal

pub cond_extent-returns-in-All : goal.cond_extent-returns-in-All
cond_extent-returns-in-All t c = all_arm c.args.prelude c.args.c.now c.in-All.entries c.as_slice.result.now c.conds_extent.result c.in-All.is c.as_slice.ensures c.conds_extent.ensures

pub cond_extent-returns-in-Any : goal.cond_extent-returns-in-Any
cond_extent-returns-in-Any t c = any_arm c.args.prelude c.args.c.now c.in-Any.entries c.as_slice-in-Any.result.now c.conds_extent-in-Any.result c.in-Any.is c.as_slice-in-Any.ensures c.conds_extent-in-Any.ensures

pub entries_behind-loop-c-preserved : goal.entries_behind-loop-c-preserved
entries_behind-loop-c-preserved t c =
    entry_step c.args.prelude c.args.all c.loop-c.row c.beside-row.result c.beside_mark.result _ c.cond_extent.result c.args.cs.now c.loop-c.c-index c.c-item.result c.loop-c-test.true c.c-item.is c.cond_extent.ensures c.beside_mark.ensures c.beside-row.ensures c.loop-c.invariant

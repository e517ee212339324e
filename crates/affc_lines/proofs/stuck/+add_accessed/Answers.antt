use Rattle.std.proofs.lemmas.Result.{on_ok_weaker}
use Rattle.affc_interp.specs.Arrays.{values_in}
use Rattle.affc_lines.proofs.Accesses.{in_for, in_block, one_body, both_bodies}
use Rattle.affc_lines.proofs.stuck.+add_accessed.Goals as goal

pub add_accessed-returns-in-For : goal.add_accessed-returns-in-For
add_accessed-returns-in-For t c =
    on_ok_weaker c.add_each_accessed.result
    (one_body c.args.stmt.now c.as_slice.result.now (values_in c.args.each.now.items) (values_in c.add_each_accessed.new.each.items)
    (in_for c.args.stmt.now c.in-For.iter c.in-For.low c.in-For.rel c.in-For.high c.in-For.body c.as_slice.result.now c.in-For.is c.as_slice.ensures))
    c.add_each_accessed.ensures

pub add_accessed-returns-in_ok-add_each_accessed-in-If : goal.add_accessed-returns-in_ok-add_each_accessed-in-If
add_accessed-returns-in_ok-add_each_accessed-in-If t c =
    on_ok_weaker c.add_each_accessed-in-If-2.result
    (both_bodies c.args.stmt.now c.in-If.cond c.in-If.body c.as_slice-in-If.result.now c.in-If.other c.as_slice-in-If-2.result.now
    (values_in c.args.each.now.items) (values_in c.add_each_accessed-in-If.new.each.items) (values_in c.add_each_accessed-in-If-2.new.each.items)
    c.in-If.is c.as_slice-in-If.ensures c.as_slice-in-If-2.ensures c.in_ok-add_each_accessed-in-If.ensures)
    c.add_each_accessed-in-If-2.ensures

pub add_accessed-returns-in-Block : goal.add_accessed-returns-in-Block
add_accessed-returns-in-Block t c =
    on_ok_weaker c.add_each_accessed-in-Block.result
    (one_body c.args.stmt.now c.as_slice-in-Block.result.now (values_in c.args.each.now.items) (values_in c.add_each_accessed-in-Block.new.each.items)
    (in_block c.args.stmt.now c.in-Block.locals c.in-Block.body c.as_slice-in-Block.result.now c.in-Block.is c.as_slice-in-Block.ensures))
    c.add_each_accessed-in-Block.ensures

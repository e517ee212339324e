use Rattle.std.proofs.Common.{◌++◌, ap, ◌∙◌}
use Rattle.std.proofs.lemmas.Result.{on_ok_weaker}
use Rattle.affc_schedtext.proofs.Walks.{for_under, if_under, block_under}
use Rattle.affc_schedtext.proofs.program.+walk.Goals as goal

pub walk-returns-in_ok-inside-in-For : goal.walk-returns-in_ok-inside-in-For
walk-returns-in_ok-inside-in-For t c =
    on_ok_weaker c.walk_all.result
    (λ e. e ∙ ap (λ l. c.args.out.now ++ l) (for_under c.args.around.now c.as_slice-in-For.result.now c.args.s.now c.in-For.iter c.in-For.low c.in-For.rel c.in-For.high c.in-For.body c.as_slice.result.now c.in-For.is (c.as_slice-in-For.ensures ∙ c.in_ok-inside-in-For.ensures) c.as_slice.ensures))
    c.walk_all.ensures

pub walk-returns-in_ok-walk_all-in-If : goal.walk-returns-in_ok-walk_all-in-If
walk-returns-in_ok-walk_all-in-If t c =
    on_ok_weaker c.walk_all-in-If-2.result
    (if_under c.args.around.now c.args.s.now c.in-If.cond c.in-If.body c.in-If.other c.as_slice-in-If.result.now c.as_slice-in-If-2.result.now c.args.out.now c.walk_all-in-If.new.out c.walk_all-in-If-2.new.out
    c.in-If.is c.as_slice-in-If.ensures c.as_slice-in-If-2.ensures c.in_ok-walk_all-in-If.ensures)
    c.walk_all-in-If-2.ensures

pub walk-returns-in-Block : goal.walk-returns-in-Block
walk-returns-in-Block t c =
    on_ok_weaker c.walk_all-in-Block.result (λ e. e ∙ ap (λ l. c.args.out.now ++ l) (block_under c.args.around.now c.args.s.now c.in-Block.locals c.in-Block.body c.as_slice-in-Block.result.now c.in-Block.is c.as_slice-in-Block.ensures))
    c.walk_all-in-Block.ensures

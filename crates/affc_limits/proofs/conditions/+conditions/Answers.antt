use Rattle.std.proofs.Common.{true, false, map, ap, ◌∙◌}
use Rattle.affc_syntax.specs.draft.Drafts.{cond, conds_of}
use Rattle.affc_limits.specs.Conditions.{none, with_cond, counted_each}
use Rattle.affc_limits.proofs.LineLaws.{passed_all}
use Rattle.affc_limits.proofs.ConditionLaws.{counted_all, of_all, of_any}
use Rattle.affc_limits.proofs.conditions.+conditions.Goals as goal

pub count_each-returns : goal.count_each-returns
count_each-returns t c =
    passed_all (with_cond c.args.all) cond (none c.args.all) c.loop-item.made c.args.items.now c.loop-item.item-index c.loop-item-test.false c.loop-item.invariant
    ∙ counted_all c.args.all (map cond c.args.items.now)

pub count-returns-in-All : goal.count-returns-in-All
count-returns-in-All t c =
    c.count_each.ensures
    ∙ ap (λ l. counted_each true (conds_of (map cond l))) c.as_slice.ensures
    ∙ of_all c.args.c.now c.in-All.entries c.in-All.is

pub count-returns-in-Any : goal.count-returns-in-Any
count-returns-in-Any t c =
    c.count_each-in-Any.ensures
    ∙ ap (λ l. counted_each false (conds_of (map cond l))) c.as_slice-in-Any.ensures
    ∙ of_any c.args.c.now c.in-Any.entries c.in-Any.is

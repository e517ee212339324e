use Rattle.std.proofs.Common.{map, None, ap, ◌∙◌}
use Rattle.affc_grammar.specs.Limits.{cond_past, conds_past}
use Rattle.affc_syntax.specs.draft.Drafts.{cond, conds_of}
use Rattle.affc_limits.specs.Places.{least, with_places}
use Rattle.affc_limits.proofs.LineLaws.{passed_all}
use Rattle.affc_limits.proofs.DivisorLaws.{all_conds, of_all, of_any}
use Rattle.affc_limits.proofs.divisors.+conditions.Goals as goal

pub in_conds-returns : goal.in_conds-returns
in_conds-returns t c =
    passed_all (with_places (cond_past c.args.limit)) cond None c.loop-item.found c.args.items.now c.loop-item.item-index c.loop-item-test.false c.loop-item.invariant
    ∙ all_conds c.args.limit (map cond c.args.items.now)

pub in_cond-returns-in-All : goal.in_cond-returns-in-All
in_cond-returns-in-All t c =
    c.in_conds.ensures
    ∙ ap (λ l. least (conds_past c.args.limit (conds_of (map cond l)))) c.as_slice.ensures
    ∙ of_all c.args.limit c.args.c.now c.in-All.entries c.in-All.is

pub in_cond-returns-in-Any : goal.in_cond-returns-in-Any
in_cond-returns-in-Any t c =
    c.in_conds-in-Any.ensures
    ∙ ap (λ l. least (conds_past c.args.limit (conds_of (map cond l)))) c.as_slice-in-Any.ensures
    ∙ of_any c.args.limit c.args.c.now c.in-Any.entries c.in-Any.is

use Rattle.std.proofs.Common.{◌≡◌, map, sym, ap, subst, IfOk, ◌∙◌}
use Rattle.affc_grammar.specs.Limits.{cond_texts, conds_texts}
use Rattle.affc_syntax.specs.draft.Drafts.{cond, conds_of}
use Rattle.affc_limits.specs.Texts.{with_found}
use Rattle.affc_limits.proofs.TextLaws.{gathered, conds_texts_of, of_all, of_any}
use Rattle.affc_limits.proofs.texts.+conditions.Goals as goal

pub in_conds-returns-clause-found : goal.in_conds-returns-clause-found
in_conds-returns-clause-found t c = gathered c.args.rule cond_texts cond c.args.items.now c.loop-item.item-index c.args.before c.loop-item.found c.loop-item-test.false c.loop-item.invariant ∙ ap (with_found c.args.rule c.args.before) (sym (conds_texts_of (map cond c.args.items.now)))

pub in_cond-returns-in-All-clause-found : goal.in_cond-returns-in-All-clause-found
in_cond-returns-in-All-clause-found t c =
    subst (λ o. IfOk c.in_conds.result (λ p. p ≡ o)) (
    ap (λ l. with_found c.args.rule c.args.before (conds_texts (conds_of (map cond l)))) c.as_slice.ensures
    ∙ of_all c.args.rule c.args.before c.args.c.now c.in-All.entries c.in-All.is
    ) c.in_conds.ensures.found

pub in_cond-returns-in-Any-clause-found : goal.in_cond-returns-in-Any-clause-found
in_cond-returns-in-Any-clause-found t c =
    subst (λ o. IfOk c.in_conds-in-Any.result (λ p. p ≡ o)) (
    ap (λ l. with_found c.args.rule c.args.before (conds_texts (conds_of (map cond l)))) c.as_slice-in-Any.ensures
    ∙ of_any c.args.rule c.args.before c.args.c.now c.in-Any.entries c.in-Any.is
    ) c.in_conds-in-Any.ensures.found

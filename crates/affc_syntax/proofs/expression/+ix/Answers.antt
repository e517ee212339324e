use Rattle.std.proofs.Common.{length, sym, ◌∙◌}
use Rattle.std.proofs.lemmas.Result.{err_from_is_err_and}
use Rattle.affc_syntax.specs.draft.Drafts.{ix}
use Rattle.affc_syntax.proofs.IxReads.{factors_err, factors_on, factors_end, factors_less, terms_err, terms_on, terms_end, terms_less}
use Rattle.affc_syntax.proofs.expression.+ix.Goals as goal

pub factors-returns-in_err-longer : goal.factors-returns-in_err-longer
factors-returns-in_err-longer t c =
    let p = err_from_is_err_and c.from_residual.result c.from_residual.ensures.1 in
    rw (p.1, p.2, ← c.loop-behind.invariant) (factors_err c.args.prelude (length c.args.symbols.now) c.args.room c.args.symbols.now (ix c.loop-behind.left) c.loop-behind.next c.in-Some.behind _ c.in-Some.ensures.rest c.in_err-longer.ensures)

pub factors-loop-behind-smaller : goal.factors-loop-behind-smaller
factors-loop-behind-smaller t c = factors_less c.args.prelude (length c.args.symbols.now) c.args.room c.args.symbols.now (ix c.loop-behind.left) c.loop-behind.next c.in-Some.behind (ix c.in_ok-longer.longer) c.in_ok-longer.rest c.in-Some.ensures.rest c.in_ok-longer.ensures

pub factors-loop-behind-preserved : goal.factors-loop-behind-preserved
factors-loop-behind-preserved t c = sym (factors_on c.args.prelude (length c.args.symbols.now) c.args.room c.args.symbols.now (ix c.loop-behind.left) c.loop-behind.next c.in-Some.behind (ix c.in_ok-longer.longer) c.in_ok-longer.rest c.in-Some.ensures.rest c.in_ok-longer.ensures) ∙ c.loop-behind.invariant

pub factors-returns : goal.factors-returns
factors-returns t c = sym c.loop-behind.invariant ∙ factors_end c.args.prelude (length c.args.symbols.now) c.args.room c.args.symbols.now (ix c.loop-behind.left) c.loop-behind.next 0 c.in_default.ensures.rest

pub terms-returns-in_err-longer : goal.terms-returns-in_err-longer
terms-returns-in_err-longer t c =
    let p = err_from_is_err_and c.from_residual.result c.from_residual.ensures.1 in
    rw (p.1, p.2, ← c.loop-is_plus.invariant) (terms_err c.args.prelude (length c.args.symbols.now) c.args.room c.args.symbols.now (ix c.loop-is_plus.left) c.loop-is_plus.next c.in-Some.behind c.in-Some.is_plus _ c.in-Some.ensures.rest c.in_err-longer.ensures)

pub terms-loop-is_plus-smaller : goal.terms-loop-is_plus-smaller
terms-loop-is_plus-smaller t c = terms_less c.args.prelude (length c.args.symbols.now) c.args.room c.args.symbols.now (ix c.loop-is_plus.left) c.loop-is_plus.next c.in-Some.behind c.in-Some.is_plus (ix c.in_ok-longer.longer) c.in_ok-longer.rest c.in-Some.ensures.rest c.in_ok-longer.ensures

pub terms-loop-is_plus-preserved : goal.terms-loop-is_plus-preserved
terms-loop-is_plus-preserved t c = sym (terms_on c.args.prelude (length c.args.symbols.now) c.args.room c.args.symbols.now (ix c.loop-is_plus.left) c.loop-is_plus.next c.in-Some.behind c.in-Some.is_plus (ix c.in_ok-longer.longer) c.in_ok-longer.rest c.in-Some.ensures.rest c.in_ok-longer.ensures) ∙ c.loop-is_plus.invariant

pub terms-returns : goal.terms-returns
terms-returns t c = sym c.loop-is_plus.invariant ∙ terms_end c.args.prelude (length c.args.symbols.now) c.args.room c.args.symbols.now (ix c.loop-is_plus.left) c.loop-is_plus.next 0 c.in_default.ensures.rest

use Rattle.std.proofs.Common.{sym, ◌∙◌}
use Rattle.std.proofs.lemmas.Result.{err_from_is_err_and}
use Rattle.affc_syntax.specs.draft.Drafts.{value}
use Rattle.affc_syntax.proofs.ValueReads.{shifts_err, shifts_on, shifts_end, shifts_less}
use Rattle.affc_syntax.proofs.value.more_shifts.Goals as goal

pub returns-in_err-longer : goal.returns-in_err-longer
returns-in_err-longer c =
    let p = err_from_is_err_and c.from_residual.result c.from_residual.ensures.1 in
    rw (p.1, p.2, ← c.loop-is_left.invariant) (shifts_err c.args.symbols.now (value c.loop-is_left.left) c.loop-is_left.next c.in-Some.behind c.in-Some.is_left c.in-Some.ensures.rest _ c.in_err-longer.ensures)

pub loop-is_left-smaller : goal.loop-is_left-smaller
loop-is_left-smaller c = shifts_less c.args.symbols.now (value c.loop-is_left.left) c.loop-is_left.next c.in-Some.behind c.in-Some.is_left c.in-Some.ensures.rest (value c.in_ok-longer.longer) c.in_ok-longer.rest c.in_ok-longer.ensures

pub loop-is_left-preserved : goal.loop-is_left-preserved
loop-is_left-preserved c = sym (shifts_on c.args.symbols.now (value c.loop-is_left.left) c.loop-is_left.next c.in-Some.behind c.in-Some.is_left c.in-Some.ensures.rest (value c.in_ok-longer.longer) c.in_ok-longer.rest c.in_ok-longer.ensures) ∙ c.loop-is_left.invariant

pub returns : goal.returns
returns c = sym c.loop-is_left.invariant ∙ shifts_end (value c.loop-is_left.left) _ c.in_default.ensures.rest

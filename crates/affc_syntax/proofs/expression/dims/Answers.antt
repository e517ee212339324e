use Rattle.std.proofs.Common.{length, map, sym, ◌∙◌}
use Rattle.std.proofs.lemmas.Result.{err_from_is_err_and}
use Rattle.affc_syntax.specs.draft.Drafts.{ix}
use Rattle.affc_syntax.proofs.IxReads.{dims_err, dims_on, dims_end, dims_less}
use Rattle.affc_syntax.proofs.expression.dims.Goals as goal

pub returns-in_err-longer : goal.returns-in_err-longer
returns-in_err-longer c =
    let p = err_from_is_err_and c.from_residual.result c.from_residual.ensures.1 in
    rw (p.1, p.2, ← c.loop-behind.invariant) (dims_err c.args.prelude (length c.args.symbols.now) c.args.room c.args.symbols.now (map ix c.loop-behind.dims) c.loop-behind.next c.in-Some.behind _ c.in-Some.ensures.rest c.in_err-longer.ensures)

pub loop-behind-smaller : goal.loop-behind-smaller
loop-behind-smaller c = dims_less c.args.prelude (length c.args.symbols.now) c.args.room c.args.symbols.now (map ix c.loop-behind.dims) c.loop-behind.next c.in-Some.behind (map ix c.in_ok-longer.longer) c.in_ok-longer.rest c.in-Some.ensures.rest c.in_ok-longer.ensures

pub loop-behind-preserved : goal.loop-behind-preserved
loop-behind-preserved c = sym (dims_on c.args.prelude (length c.args.symbols.now) c.args.room c.args.symbols.now (map ix c.loop-behind.dims) c.loop-behind.next c.in-Some.behind (map ix c.in_ok-longer.longer) c.in_ok-longer.rest c.in-Some.ensures.rest c.in_ok-longer.ensures) ∙ c.loop-behind.invariant

pub returns : goal.returns
returns c = sym c.loop-behind.invariant ∙ dims_end c.args.prelude (length c.args.symbols.now) c.args.room c.args.symbols.now (map ix c.loop-behind.dims) c.loop-behind.next 0 c.in_default.ensures.rest

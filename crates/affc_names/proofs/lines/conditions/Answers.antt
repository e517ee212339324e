use Rattle.std.proofs.Common.{◌+◌, drop, subst, sym, ap, ◌∙◌}
use Rattle.std.proofs.lemmas.Result.{err_from_is_err_and}
use Rattle.affc_grammar.specs.Names.{pragmas_tree}
use Rattle.affc_names.specs.Gives.{Fails}
use Rattle.affc_names.specs.Ranges.{texts}
use Rattle.affc_names.proofs.LineLaws.{behind, seen_lines, conditions_turn, conditions_stop}
use Rattle.affc_names.proofs.lines.conditions.Goals as goal

pub returns-in_err-more : goal.returns-in_err-more
returns-in_err-more c =
    let p = err_from_is_err_and c.from_residual.result c.from_residual.ensures.1 in
    rw (p.1, p.2) (subst (Fails c.in_err-more.field-0.0) (sym c.loop-line.invariant)
    (conditions_stop c.args.scope.now (texts c.loop-line.earlier.keys) c.args.lines.now c.loop-line.line-index c.line-item.result c.loop-line.conditions c.in_err-more.field-0.0 c.loop-line-test.true c.line-item.is c.in_err-more.ensures.conditions))

pub loop-line-preserved : goal.loop-line-preserved
loop-line-preserved c =
    c.loop-line.invariant
    ∙ conditions_turn c.args.scope.now (texts c.loop-line.earlier.keys) (texts c.add_conditions.new.earlier.keys) c.args.lines.now c.loop-line.line-index c.line-item.result c.loop-line.conditions c.in_ok-more.more c.loop-line-test.true c.line-item.is
    c.in_ok-more.ensures.conditions c.in_ok-more.ensures.noted
    ∙ ap (λ l. behind l (pragmas_tree c.args.scope.now (texts c.add_conditions.new.earlier.keys) (seen_lines (drop (c.loop-line.line-index + 1) c.args.lines.now)))) (sym c.in_ok-append.ensures)

use Rattle.std.proofs.Common.{◌+◌, drop, subst, sym, ap, ◌∙◌}
use Rattle.std.proofs.lemmas.Result.{err_from_is_err_and}
use Rattle.affc_grammar.specs.Names as names
use Rattle.affc_names.specs.Gives.{Fails}
use Rattle.affc_names.proofs.Statements.{behind, seen_locals, locals_turn, locals_stop}
use Rattle.affc_names.proofs.statement.add_locals.Goals as goal

pub returns-in_err-local : goal.returns-in_err-local
returns-in_err-local c =
    let p = err_from_is_err_and c.from_residual.result c.from_residual.ensures.1 in
    rw (p.1, p.2) (subst (Fails c.in_err-local.field-0.0) (sym c.loop-draft.invariant)
    (locals_stop c.loop-draft.scope c.args.drafts.now c.loop-draft.draft-index c.draft-item.result c.loop-draft.locals c.in_err-local.field-0.0 c.loop-draft-test.true c.draft-item.is c.in_err-local.ensures))

pub loop-draft-preserved : goal.loop-draft-preserved
loop-draft-preserved c =
    c.loop-draft.invariant
    ∙ locals_turn c.loop-draft.scope c.add_local.new.scope c.args.drafts.now c.loop-draft.draft-index c.draft-item.result c.loop-draft.locals c.in_ok-local.local c.loop-draft-test.true c.draft-item.is c.in_ok-local.ensures
    ∙ ap (λ l. behind l (names.locals_tree c.add_local.new.scope (seen_locals (drop (c.loop-draft.draft-index + 1) c.args.drafts.now)))) (sym c.in_ok-push.ensures.ok)

use Rattle.std.proofs.Common.{◌+◌, drop, subst, sym, ap, ◌∙◌}
use Rattle.std.proofs.lemmas.Result.{err_from_is_err_and}
use Rattle.affc_grammar.specs.Names.{temps_tree}
use Rattle.affc_names.specs.Gives.{Fails}
use Rattle.affc_names.proofs.Params.{behind_temps, seen_decls, temps_turn, temps_stop}
use Rattle.affc_names.proofs.program.add_temps.Goals as goal

pub returns-in_err-temp : goal.returns-in_err-temp
returns-in_err-temp c =
    let p = err_from_is_err_and c.from_residual.result c.from_residual.ensures.1 in
    rw (p.1, p.2) (subst (Fails c.in_err-temp.field-0.0) (sym c.loop-draft.invariant)
    (temps_stop c.loop-draft.scope c.args.drafts.now c.loop-draft.draft-index c.draft-item.result c.loop-draft.temps c.in_err-temp.field-0.0 c.loop-draft-test.true c.draft-item.is c.in_err-temp.ensures.tree))

pub loop-draft-preserved : goal.loop-draft-preserved
loop-draft-preserved c =
    c.loop-draft.invariant
    ∙ temps_turn c.loop-draft.scope c.add_array.new.scope c.args.drafts.now c.loop-draft.draft-index c.draft-item.result c.loop-draft.temps c.in_ok-temp.temp c.loop-draft-test.true c.draft-item.is
    c.in_ok-temp.ensures.tree c.in_ok-temp.ensures.visible
    ∙ ap (λ l. behind_temps l (temps_tree c.add_array.new.scope (seen_decls (drop (c.loop-draft.draft-index + 1) c.args.drafts.now)))) (sym c.in_ok-push.ensures.ok)

use Rattle.std.proofs.Common.{◌+◌, drop, subst, sym, ap, ◌∙◌}
use Rattle.std.proofs.lemmas.Result.{err_from_is_err_and}
use Rattle.affc_grammar.specs.Names.{params_tree}
use Rattle.affc_names.specs.Gives.{Fails}
use Rattle.affc_names.specs.Ranges.{lines_of}
use Rattle.affc_names.proofs.Params.{behind, seen_params, params_turn, params_stop, visible_turn}
use Rattle.affc_names.proofs.program.add_params.Goals as goal

pub returns-in_err-param-clause-tree : goal.returns-in_err-param-clause-tree
returns-in_err-param-clause-tree c =
    let p = err_from_is_err_and c.from_residual.result c.from_residual.ensures.1 in
    rw (p.1, p.2) (subst (Fails c.in_err-param.field-0.0) (sym c.loop-draft.invariant.tree)
    (params_stop c.loop-draft.scope (lines_of c.args.ranges.now.entries) c.args.drafts.now c.loop-draft.draft-index c.draft-item.result c.loop-draft.params c.in_err-param.field-0.0 c.loop-draft-test.true c.draft-item.is c.in_err-param.ensures.tree))

pub loop-draft-preserved : goal.loop-draft-preserved
loop-draft-preserved c = record {
  tree =
      c.loop-draft.invariant.tree
      ∙ params_turn c.loop-draft.scope c.add_param.new.scope (lines_of c.args.ranges.now.entries) c.args.drafts.now c.loop-draft.draft-index c.draft-item.result c.loop-draft.params c.in_ok-param.param c.loop-draft-test.true c.draft-item.is
      c.in_ok-param.ensures.tree c.in_ok-param.ensures.visible
      ∙ ap (λ l. behind l (params_tree c.add_param.new.scope (lines_of c.args.ranges.now.entries) (seen_params (drop (c.loop-draft.draft-index + 1) c.args.drafts.now)))) (sym c.in_ok-push.ensures.ok);
  visible = c.loop-draft.invariant.visible ∙ visible_turn c.loop-draft.scope c.add_param.new.scope c.args.drafts.now c.loop-draft.draft-index c.draft-item.result c.loop-draft-test.true c.draft-item.is c.in_ok-param.ensures.visible;
}

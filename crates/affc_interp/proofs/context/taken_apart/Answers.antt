use Rattle.std.proofs.Common.{◌<◌, [], ◌∷◌, sym, ap, subst, ◌∙◌, arith}
use Rattle.std.specs.List.{All}
use Rattle.std.proofs.lemmas.List.Elements.{All-append, All-cons, All-nil}
use Rattle.affc_ast.specs.Fits.{whole_of}
use Rattle.affc_ast.specs.Index.{nodes_of_ix}
use Rattle.affc_interp.specs.declared.step.Step.{Step}
use Rattle.affc_interp.specs.Steps.{all_made, right_nodes}
use Rattle.affc_interp.proofs.Wholes.{one_below}
use Rattle.affc_interp.proofs.context.taken_apart.Goals as goal

pub loop-a-preserved : goal.loop-a-preserved
loop-a-preserved c =
    let s = c.in-Some.ensures in
    let e = c.args.e.now in
    let small = λ (t : Step). right_nodes t < nodes_of_ix e in
    let ss = c.loop-a.steps.items in
    record {
      value = λ names. c.loop-a.invariant.value names ∙ ap (all_made ss names) (s.whole names) ∙ sym (one_below ss c.in-Some.step names (whole_of c.in-Some.a.now names)) ∙ ap (λ l. all_made l names (whole_of c.in-Some.a.now names)) (sym c.in_ok-push.ensures.items);
      smaller = subst (All small) (sym c.in_ok-push.ensures.items) (All-append small ss (c.in-Some.step ∷ []) c.loop-a.invariant.smaller (All-cons small c.in-Some.step [] (omega (arith, s.nodes, c.loop-a.invariant.within)) (All-nil small)));
      within = omega (arith, s.nodes, c.loop-a.invariant.within);
    }

use Rattle.std.proofs.Common.{◌<◌, subst, sym}
use Rattle.std.specs.List.{All}
use Rattle.std.proofs.lemmas.List.Elements.{All-take}
use Rattle.affc_ast.specs.Index.{nodes_of_ix}
use Rattle.affc_interp.specs.declared.step.Step.{Step}
use Rattle.affc_interp.specs.Steps.{number, whole_made, right_nodes}
use Rattle.affc_interp.specs.Wholes.{IsRead}
use Rattle.affc_interp.proofs.Wholes.{goes_on, stuck}
use Rattle.affc_interp.proofs.context.+whole.Goals as goal

pub whole-loop-step-preserved : goal.whole-loop-step-preserved
whole-loop-step-preserved t c =
    let ss = c.loop-step.steps.items in
    let rest = c.pop.new.self.items in
    let s = c.in-Some.step in
    let x = c.loop-step.value in
    let small = λ (t : Step). right_nodes t < nodes_of_ix c.args.e.now in
    record {
      value = goes_on ss rest s c.args.e.now c.args.names.now x c.loop-step.invariant.value c.in-Some.ensures.items c.in-Some-2.next (subst (λ o. IsRead o (whole_made s c.args.names.now (number x))) c.in-Some-2.is c.in_ok-next.ensures);
      smaller = subst (All small) (sym c.in-Some.ensures.rest) (All-take small _ ss c.loop-step.invariant.smaller);
    }

pub whole-returns-in-None : goal.whole-returns-in-None
whole-returns-in-None t c =
    let s = c.in-Some.step in
    let x = c.loop-step.value in
    stuck c.loop-step.steps.items c.pop.new.self.items s c.args.e.now c.args.names.now x c.loop-step.invariant.value c.in-Some.ensures.items (subst (λ o. IsRead o (whole_made s c.args.names.now (number x))) c.in-None.is c.in_ok-next.ensures)

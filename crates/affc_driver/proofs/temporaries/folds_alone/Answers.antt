use Rattle.std.proofs.Common.{◌≡◌, ◌∙◌, sym, subst, [], ◌∷◌, List, length, Bool, true, nat_eq, refl, ap, arith}
use Rattle.std.proofs.lemmas.Bool.{eqb-true}
use Rattle.std.proofs.lemmas.Result.{IfOk-weaker, IfErr-weaker}
use Rattle.affc_quast.specs.Seen.{trees_of}
use Rattle.affc_driver.specs.Made.{AreDecided}
use Rattle.affc_driver.specs.Programs.{OfEachPlan}
use Rattle.affc_driver.specs.Refusals.{RefusalSays}
use Rattle.affc_driver.proofs.Compiled.{none_is_written}
use Rattle.affc_driver.proofs.Folded.{decided, decided_without}
use Rattle.affc_driver.proofs.temporaries.folds_alone.Goals as goal

-- a list that is found empty
no_items : {A : Type 0} (xs ys : List A) (t : Bool) → xs ≡ ys → t ≡ nat_eq (length xs) 0 → t ≡ true → ys ≡ []
no_items xs [] t e f g = refl
no_items xs (y ∷ ys) t e f g =
    let none : length xs ≡ 0 = eqb-true (length xs) 0 (sym f ∙ g) in
    absurd (omega (arith, none, ap length e))

pub in_order-requires-clause-written : goal.in_order-requires-clause-written
in_order-requires-clause-written g c text reads bare =
    let none : c.args.compiled.now.program.now.temps ≡ [] = no_items c.as_slice.result.now _ c.is_empty.result c.as_slice.ensures c.is_empty.ensures c.if-is_empty.true in
    none_is_written c.args.compiled.now.program.now c.requires.compiled.arrays c.requires.compiled.within none

pub returns-then-is_empty-clause-decided : goal.returns-then-is_empty-clause-decided
returns-then-is_empty-clause-decided g c =
    let A = g.F.Cost.answers c.args.cost.now.cost in
    let none : c.args.compiled.now.program.now.temps ≡ [] = no_items c.as_slice.result.now _ c.is_empty.result c.as_slice.ensures c.is_empty.ensures c.if-is_empty.true in
    subst (λ folds. AreDecided A c.args.compiled.now.program.now c.args.compiled.now.plan.now c.in_order.new.budget folds c.new-choices.result) (sym c.new-folds.ensures)
    (subst (λ choices. AreDecided A c.args.compiled.now.program.now c.args.compiled.now.plan.now c.in_order.new.budget [] choices) (sym c.new-choices.ensures)
    (decided_without A c.args.compiled.now.program.now c.args.compiled.now.plan.now c.in_order.new.budget c.requires.compiled.arrays c.requires.compiled.within none c.in_ok-in_order.ensures.legal))

pub trees_in_order-requires : goal.trees_in_order-requires
trees_in_order-requires g c = record { compiled = c.requires.compiled }

pub returns-clause-decided : goal.returns-clause-decided
returns-clause-decided g c =
    let program = c.args.compiled.now.program.now in
    IfOk-weaker c.folds_of.result _ _
    (λ folded are. decided (g.F.Cost.answers c.args.cost.now.cost) program c.args.compiled.now.plan.now c.folds_of.new.budget (trees_of c.in_ok-flow.flow) folded.folds folded.choices c.requires.compiled.within c.in_ok-flow.ensures.named c.in_ok-flow.ensures.legal are)
    c.folds_of.ensures.folds

pub returns-clause-err : goal.returns-clause-err
returns-clause-err g c =
    IfErr-weaker c.folds_of.result _ _
    (λ refusal is. subst (λ r. OfEachPlan c.args.compiled.now.program.now c.args.compiled.now.plan.now (λ text schedule. RefusalSays text schedule r)) (sym is) (λ schedule planned text reads bare. tt))
    c.folds_of.ensures.err

pub returns-clause-stop : goal.returns-clause-stop
returns-clause-stop g c = IfErr-weaker c.folds_of.result _ _ (λ refusal is spent. absurd (cc)) c.folds_of.ensures.err

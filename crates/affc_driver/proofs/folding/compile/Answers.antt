use Rattle.std.proofs.Common.{◌∙◌, refl, sym, true, false, true≢false}
use Rattle.std.proofs.lemmas.Result.{IfOk-weaker, IfErr-weaker}
use Rattle.affc_driver.specs.Accounts.{free}
use Rattle.affc_driver.proofs.Counted.{folds_made, is_short, test_is, free_counted, all_counted}
use Rattle.affc_driver.proofs.Refused.{refuses_each}
use Rattle.affc_driver.proofs.folding.compile.Goals as goal

pub returns-in-Err-clause-err : goal.returns-in-Err-clause-err
returns-in-Err-clause-err g c = refuses_each c.args.program.now c.args.plan.now c.in-Err.refusal c.in-Err.ensures.err

pub returns-in-Err-clause-short : goal.returns-in-Err-clause-short
returns-in-Err-clause-short g c spent = absurd (c.in-Err.ensures.free spent)

pub returns-then-is_plenty-clause-ok : goal.returns-then-is_plenty-clause-ok
returns-then-is_plenty-clause-ok g c =
    let A = g.F.Cost.answers c.args.cost.now.cost in
    let limit = c.args.budget.now.limit in
    let plenty = test_is c.args.program.now c.in-Ok.nest c.args.plan.now.schedule limit limit c.is_plenty.result true c.in-Ok.ensures.nest c.is_plenty.ensures c.if-is_plenty.true refl in
    IfOk-weaker c.compile_freely.result _ _
    (λ made h. folds_made c.folds_well_named.ensures.law c.folds_compile.ensures.law A c.args.program.now c.args.plan.now free c.args.budget.now c.args.wanted made
    (free_counted _ free c.args.budget.now plenty refl) h)
    c.compile_freely.ensures.ok

pub returns-then-is_plenty-clause-stop : goal.returns-then-is_plenty-clause-stop
returns-then-is_plenty-clause-stop g c = IfErr-weaker c.compile_freely.result _ _ (λ refusal counted spent. absurd (counted spent)) c.compile_freely.ensures.free

pub returns-then-is_plenty-clause-short : goal.returns-then-is_plenty-clause-short
returns-then-is_plenty-clause-short g c = IfErr-weaker c.compile_freely.result _ _ (λ refusal counted spent. absurd (counted spent)) c.compile_freely.ensures.free

pub returns-clause-ok : goal.returns-clause-ok
returns-clause-ok g c =
    let A = g.F.Cost.answers c.args.cost.now.cost in
    let left = c.compile_counted.new.budget in
    let few = test_is c.args.program.now c.in-Ok.nest c.args.plan.now.schedule c.args.budget.now.limit left.limit c.is_plenty.result false c.in-Ok.ensures.nest c.is_plenty.ensures c.if-is_plenty.false c.compile_counted.ensures.later.limit in
    IfOk-weaker c.compile_counted.result _ _
    (λ made h. folds_made c.folds_well_named.ensures.law c.folds_compile.ensures.law A c.args.program.now c.args.plan.now left left c.args.wanted made (all_counted _ left few) h)
    c.compile_counted.ensures.ok

pub returns-clause-short : goal.returns-clause-short
returns-clause-short g c =
    let left = c.compile_counted.new.budget in
    let few = test_is c.args.program.now c.in-Ok.nest c.args.plan.now.schedule c.args.budget.now.limit left.limit c.is_plenty.result false c.in-Ok.ensures.nest c.is_plenty.ensures c.if-is_plenty.false c.compile_counted.ensures.later.limit in
    IfErr-weaker c.compile_counted.result _ _ (λ refusal stop spent. is_short c.args.program.now c.args.plan.now left.limit left.spent c.in-Ok.ensures.near (stop spent) few) c.compile_counted.ensures.stop

pub returns-clause-plenty : goal.returns-clause-plenty
returns-clause-plenty g c enough =
    let limit = c.args.budget.now.limit in
    absurd (true≢false (sym enough ∙ test_is c.args.program.now c.in-Ok.nest c.args.plan.now.schedule limit limit c.is_plenty.result false c.in-Ok.ensures.nest c.is_plenty.ensures c.if-is_plenty.false refl))

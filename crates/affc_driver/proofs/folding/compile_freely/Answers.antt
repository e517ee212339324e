use Rattle.std.proofs.Common.{◌∙◌, sym, ap, subst}
use Rattle.std.proofs.lemmas.Option.{none-some}
use Rattle.std.proofs.lemmas.Result.{IfOk-weaker, IfErr-weaker}
use Rattle.affc_split.specs.Budgets.{Account}
use Rattle.affc_driver.specs.Made.{IsCompiled}
use Rattle.affc_driver.proofs.Counted.{stays_free}
use Rattle.affc_driver.proofs.folding.compile_freely.Goals as goal

pub returns-clause-ok : goal.returns-clause-ok
returns-clause-ok g c =
    let A = g.F.Cost.answers c.args.cost.now.cost in
    let still = stays_free c.new-budget.result c.compile_counted.new.budget c.new-budget.ensures c.compile_counted.ensures.later in
    IfOk-weaker c.compile_counted.result _ _ (λ made h. subst (λ b. IsCompiled A c.args.program.now c.args.plan.now b c.args.wanted made) still h) c.compile_counted.ensures.ok

pub returns-clause-free : goal.returns-clause-free
returns-clause-free g c =
    let still = stays_free c.new-budget.result c.compile_counted.new.budget c.new-budget.ensures c.compile_counted.ensures.later in
    IfErr-weaker c.compile_counted.result _ _ (λ refusal stop spent. absurd (none-some c.compile_counted.new.budget.spent (sym (ap (λ (a : Account). a.limit) still) ∙ stop spent))) c.compile_counted.ensures.stop

use Rattle.std.proofs.Common.{rules, subst, IfSome}
use Rattle.affc_leaf.specs.Bounds.{ranges_of}
use Rattle.affc_leaf.specs.Cuts.{IsCutOf}
use Rattle.affc_split.specs.Searches.{AreFewer}
use Rattle.affc_split.proofs.Quotients.{HasCut, found_behind, spends_behind}
use Rattle.affc_split.proofs.Spending.{failed_first}
use Rattle.affc_split.proofs.cuts.+with_cuts.Goals as goal

pub returns-in_err-cut-clause-spends : goal.returns-in_err-cut-clause-spends
returns-in_err-cut-clause-spends t c = failed_first (AreFewer 0) 0 _ c.args.budget.now c.from_residual.result (search rules)

pub returns-in_err-push_cut-clause-spends : goal.returns-in_err-push_cut-clause-spends
returns-in_err-push_cut-clause-spends t c = failed_first (AreFewer 0) 0 _ c.args.budget.now c.from_residual-in_err-push_cut.result (search rules)

pub returns-in-Ok-clause-answer : goal.returns-in-Ok-clause-answer
returns-in-Ok-clause-answer t c =
    let cut = c.in-Some.cut in
    let after = c.push_cut.new.system in
    let d = subst (λ o. IfSome o (λ d. IsCutOf c.args.system d.number d.g d.row)) c.in-Some.is c.in_ok-cut.ensures.answer in
    let p = c.in_ok-push_cut.ensures in
    let h : HasCut c.args.system after cut = record { taken = d; fits = p.fits; rows = p.rows; value = p.value } in
    found_behind c.args.system after cut c.args.bounds.now c.args.next c.in-Ok.found c.behind_cut.result h c.requires.next c.in-Ok.ensures.answer c.behind_cut.ensures.behind

pub returns-in-Ok-clause-spends : goal.returns-in-Ok-clause-spends
returns-in-Ok-clause-spends t c =
    spends_behind (ranges_of c.args.bounds.now) c.args.budget.now c.with_cuts.new.budget c.in-Some.cut c.in-Ok.found c.behind_cut.result c.behind_cut.ensures.memory c.behind_cut.ensures.behind
    c.in-Ok.ensures.spends

pub returns-in-Err-clause-spends : goal.returns-in-Err-clause-spends
returns-in-Err-clause-spends t c = c.in-Err.ensures.spends

use Rattle.std.proofs.Common.{rules, arith, inl, inr, refl, ◌∙◌}
use Rattle.affc_split.specs.Searches.{AreFewerFor}
use Rattle.affc_split.proofs.Spending.{refused, opened_searched}
use Rattle.affc_split.proofs.decision.decided.Goals as goal

pub returns-clause-unit : goal.returns-clause-unit
returns-clause-unit c = λ few. elim (c.opened.ensures.unit few) [ inl h ↦ inl (omega (arith, h, c.in_ok-open.ensures.step)) | inr k ↦ inr k ]

pub returns-clause-spends : goal.returns-clause-spends
returns-clause-spends c =
    let o = c.open.ensures in
    opened_searched AreFewerFor c.args.ranges.now c.args.ranges.now c.args.budget.now c.open.new.self c.opened.new.budget c.opened.result refl
    (record { limit = o.limit; grows = o.grows; uncounted = o.uncounted }) o.step c.in_ok-open.ensures.counted c.opened.ensures.spends

pub returns-in_err-open-clause-spends : goal.returns-in_err-open-clause-spends
returns-in_err-open-clause-spends c =
    let o = c.open.ensures in
    refused AreFewerFor _ c.args.budget.now c.open.new.self c.from_residual.result (record { limit = o.limit; grows = o.grows; uncounted = o.uncounted })
    c.in_err-open.ensures.unspent (o.limit ∙ c.in_err-open.ensures.stop) (search rules)

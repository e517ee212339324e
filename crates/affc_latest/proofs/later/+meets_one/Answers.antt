use Rattle.std.proofs.Common.{◌-◌, length, take, drop, true≢false, sym, ap, ◌∙◌}
use Rattle.std.proofs.lemmas.Result.{IfOk-weaker}
use Rattle.affc_domain.proofs.Lists.{first_and_rest}
use Rattle.affc_nest.specs.Domains.{with_rows}
use Rattle.affc_order.specs.Systems.{over}
use Rattle.affc_latest.proofs.LaterLemmas.{others_met}
use Rattle.affc_latest.proofs.later.+meets_one.Goals as goal

pub returns : goal.returns
returns t c =
    let os = c.args.orders.now in
    IfOk-weaker c.meets_one.result _ _
    (λ t h. others_met c.args.columns os (take (length os - 1) (drop 1 os)) c.order-item.result c.in_ok-system-in-len1-up.system c.args.point.now t (first_and_rest os c.order-item.result c.in-len1-up.len_at_least c.order-item.is)
    (c.in_ok-system-in-len1-up.ensures ∙ ap (λ s. with_rows s c.as_slice.result.now) c.new.ensures ∙ ap (over c.args.columns) c.as_slice.ensures) (λ m. true≢false (sym (c.holds_at.ensures.1 m) ∙ c.if-holds_at.false)) h)
    c.meets_one.ensures

use Rattle.std.proofs.lemmas.Result.{IfOk-weaker, IfErr-weaker}
use Rattle.affc_check.proofs.check.check_items.Goals as goal

pub returns-in-Ok-clause-ok : goal.returns-in-Ok-clause-ok
returns-in-Ok-clause-ok c =
    let all = c.in-Ok.ensures.ok in
    IfOk-weaker c.verdict.result _ _
    (λ spare h.
    let holds = h all.items c.args.cert.now.proofs all.stands in
    record { items = all.items; are = all.are; within = all.within; valid = holds.0; proofs = holds.1 }) c.verdict.ensures.ok

pub returns-in-Ok-clause-proof : goal.returns-in-Ok-clause-proof
returns-in-Ok-clause-proof c =
    let all = c.in-Ok.ensures.ok in
    IfErr-weaker c.verdict.result _ _
    (λ e h n q. record { within = all.within; items = all.items; are = all.are; fails = h n q all.items c.args.cert.now.proofs all.stands }) c.verdict.ensures.proof

pub returns-in-Ok-clause-shown : goal.returns-in-Ok-clause-shown
returns-in-Ok-clause-shown c =
    let all = c.in-Ok.ensures.ok in
    IfErr-weaker c.verdict.result _ _
    (λ e h n q. record { within = all.within; items = all.items; are = all.are; fails = h n q all.items c.args.cert.now.proofs all.stands }) c.verdict.ensures.shown

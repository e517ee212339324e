use Rattle.std.proofs.Common.{[], inl, inr}
use Rattle.std.proofs.lemmas.Result.{err_from_is_err_and, IfOk-weaker, IfErr-weaker}
use Rattle.affc_order.proofs.CodeLemmas.{is_nest}
use Rattle.affc_check.specs.Walked.{clashes_in}
use Rattle.affc_check.specs.list.Certs.{modulus_said}
use Rattle.affc_check.proofs.FoldLookLemmas.{row_looked, clash_passes}
use Rattle.affc_check.proofs.list.FoldLemmas.{positive_passes, mark_passes}
use Rattle.affc_check.proofs.fold_looks.look_row.Goals as goal

pub look_positive-requires-clause-nested : goal.look_positive-requires-clause-nested
look_positive-requires-clause-nested c = is_nest c.args.of.now.nest.now c.args.of.now.schedule.now c.requires.setting.asked.scheduled

pub returns-in_err-positive-clause-past : goal.returns-in_err-positive-clause-past
returns-in_err-positive-clause-past c =
    let p = err_from_is_err_and c.from_residual.result c.from_residual.ensures.1 in
    rw (p.1, p.2) (λ l ss e. positive_passes c.args.of.now.nest.now ss c.args.rows.now c.args.k c.args.row.now (modulus_said c.args.modulus.now) (c.in_err-positive.ensures.past l))

pub returns-in_err-walked-clause-past : goal.returns-in_err-walked-clause-past
returns-in_err-walked-clause-past c =
    let p = err_from_is_err_and c.from_residual-in_err-walked.result c.from_residual-in_err-walked.ensures.1 in
    rw (p.1, p.2)
    (λ l ss e.
    elim (c.in_err-walked.ensures.past l) [
      | inl large ↦ absurd (c.requires.fits large)
      | inr passes ↦ clash_passes c.args.of.now.nest.now c.args.rows.now c.args.k c.args.row.now (modulus_said c.args.modulus.now) (clashes_in c.args.of.now c.args.array) ss e passes
    ])

pub look_mark-requires-clause-sought : goal.look_mark-requires-clause-sought
look_mark-requires-clause-sought c = λ z n. c.in_ok-walked.ensures.ok.sought [] z (c.first_sought.ensures z n)

pub returns-clause-ok : goal.returns-clause-ok
returns-clause-ok c =
    let walked = c.in_ok-walked.ensures.ok in
    IfOk-weaker c.look_mark.result _ _
    (λ new h ss e. row_looked c.args.of.now.nest.now c.args.rows.now c.args.k c.args.row.now (modulus_said c.args.modulus.now) (clashes_in c.args.of.now c.args.array) ss e c.args.looked c.in_ok-positive.positive c.in_ok-walked.walked.looked new
    c.in_ok-positive.ensures.ok walked.looked (h ss e)) c.look_mark.ensures.ok

pub returns-clause-past : goal.returns-clause-past
returns-clause-past c =
    IfErr-weaker c.look_mark.result _ _
    (λ x h l ss e. mark_passes c.args.of.now.nest.now ss c.args.rows.now c.args.k c.args.row.now (modulus_said c.args.modulus.now) (h l ss e)) c.look_mark.ensures.past

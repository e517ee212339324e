use Rattle.std.proofs.Common.{◌≤◌, arith}
use Rattle.affc_check.proofs.CheckLemmas.{is_proved, is_proof}
use Rattle.affc_check.proofs.checks.is_proved.Goals as goal

pub returns : goal.returns
returns c =
    let q = c.args.question.now in
    let p = c.args.proof.now in
    let columns : q.columns ≤ 128 = omega arith in (
      λ t. is_proved q p c.rows-rows.result.now c.rows-rows.ensures.rows c.rows-rows.ensures.fit columns (c.is_proof.ensures.0 t),
      λ h. c.is_proof.ensures.1 (is_proof q p h),
    )

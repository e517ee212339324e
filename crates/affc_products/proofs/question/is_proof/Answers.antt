use Rattle.std.proofs.Common.{◌∙◌, sym}
use Rattle.std.proofs.lemmas.Bool.{false≢true}
use Rattle.affc_products.proofs.Fits.{shallow, not_deep}
use Rattle.affc_products.proofs.question.is_proof.Goals as goal

pub returns-then-depth_at_most : goal.returns-then-depth_at_most
returns-then-depth_at_most c =
    let q = c.args.system.now in
    let p = c.args.proof.now in (
      (λ t. shallow q p c.rows.result.now c.room-limit.result c.rows.ensures.rows c.room-limit.ensures c.rows.ensures.few (c.depth_at_most.ensures.0 c.if-depth_at_most.true) (c.check.ensures.exact.0 t)),
      (λ h. c.check.ensures.exact.1 h.valid),
    )

pub returns-else-depth_at_most : goal.returns-else-depth_at_most
returns-else-depth_at_most c =
    let q = c.args.system.now in
    let p = c.args.proof.now in (
      (λ t. absurd (false≢true (sym c.if-depth_at_most.false ∙ t))),
      (λ h. c.depth_at_most.ensures.1 (not_deep q p c.rows.result.now c.room-limit.result c.rows.ensures.rows c.room-limit.ensures c.rows.ensures.few h)),
    )

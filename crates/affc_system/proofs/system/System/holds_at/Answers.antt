use Rattle.std.proofs.Common.{arith, ◌≤◌, ◌∙◌, ap, refl, subst, length}
use Rattle.std.specs.List.{All}
use Rattle.std.proofs.lemmas.List.{take_all}
use Rattle.std.proofs.lemmas.List.Elements.{All-more}
use Rattle.affc_system.specs.Systems.{Meets, IsPoint}
use Rattle.affc_system.proofs.system.System.holds_at.Goals as goal

pub loop-row-preserved : goal.loop-row-preserved
loop-row-preserved c =
    let met = c.if-not-meets.ensures.0 refl in
    All-more (Meets c.args.point.now) c.as_slice-rows.result.now c.loop-row.row-index c.row-item.result c.loop-row-test.true c.loop-row.invariant
    (subst (Meets c.args.point.now) c.row-item.is met)

pub returns : goal.returns
returns c =
    let done : length c.as_slice-rows.result.now ≤ c.loop-row.row-index = omega arith in
    let all = subst (All (Meets c.args.point.now)) (take_all c.loop-row.row-index c.as_slice-rows.result.now done) c.loop-row.invariant in
    let rows = c.as_slice-rows.ensures.value ∙ ap (λ s. s.rows) c.self.view_is in
    let point : IsPoint c.args.self.now c.args.point.now = record { width = c.requires; meets = subst (All (Meets c.args.point.now)) rows all } in
    (λ t. point, λ p. refl)

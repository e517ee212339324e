use Rattle.std.proofs.Common.{◌≡◌, refl, ap, subst, ◌∙◌}
use Rattle.affc_system.specs.Systems.{IsPoint}
use Rattle.affc_leaf.specs.Bounds.{lows}
use Rattle.affc_leaf.proofs.Steps.{corner_least}
use Rattle.affc_leaf.proofs.Pinning.{front_least}
use Rattle.affc_leaf.proofs.firsts.least_point.Goals as goal

pub returns-then-holds_at : goal.returns-then-holds_at
returns-then-holds_at c =
    let system = c.args.system.now in
    let part = c.loop-j.part.items in
    let point = c.in_ok-point.point.items in
    let is : point ≡ lows part = c.in_ok-point.ensures ∙ ap lows c.as_slice-2.ensures.value in
    let meets : IsPoint system point = subst (λ xs. IsPoint system xs) c.as_slice-3.ensures.value (c.if-holds_at.ensures.0 refl) in
    front_least system c.args.bounds.now part point c.loop-j.invariant.front (corner_least system part point c.loop-j.invariant.pinned.ranges is meets)

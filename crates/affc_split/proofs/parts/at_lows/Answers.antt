use Rattle.std.proofs.Common.{refl, subst}
use Rattle.affc_system.specs.Systems.{IsPoint}
use Rattle.affc_leaf.proofs.Steps.{corner_least}
use Rattle.affc_split.proofs.parts.at_lows.Goals as goal

pub returns-then-holds_at-clause-least : goal.returns-then-holds_at-clause-least
returns-then-holds_at-clause-least c =
    corner_least c.args.system.now c.args.bounds.now c.in_ok-point.point.items c.requires.ranges c.in_ok-point.ensures (subst (λ xs. IsPoint c.args.system.now xs) c.as_slice.ensures.value (c.if-holds_at.ensures.0 refl))

use Rattle.std.proofs.Common.{◌≤◌, ◌^◌, ℤ, arith}
use Rattle.std.specs.Prelude.{unsigned_abs}
use Rattle.std.proofs.lemmas.List.Elements.{All-weaker}
use Rattle.affc_system.specs.Pairs.{WithinReach}
use Rattle.affc_conflicts.specs.Conditions.{IsNear}
use Rattle.affc_moduli.proofs.fold.context_point.Goals as goal

pub decide-requires-clause-reach : goal.decide-requires-clause-reach
decide-requires-clause-reach c = All-weaker IsNear WithinReach (λ r h. record { low = wide r.0 h.low; high = wide r.1 h.high }) c.args.ranges.now c.requires.near
  where
    wide : (v : ℤ) → unsigned_abs v ≤ 2 ^ 24 → unsigned_abs v ≤ 2 ^ 60
    wide v h = omega arith

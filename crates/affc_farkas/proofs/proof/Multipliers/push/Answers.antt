use Rattle.std.proofs.Common.{arith, rules, ◌<◌, sym, subst}
use Rattle.std.specs.List.{All}
use Rattle.affc_farkas.specs.Multiples.{AreMultipliers}
use Rattle.affc_farkas.proofs.Exact.{more_multipliers}
use Rattle.affc_farkas.proofs.proof.Multipliers.push.Goals as goal

pub invariant_of-self-2 : goal.invariant_of-self-2
invariant_of-self-2 c =
    let above : All (λ p. p.0 < c.args.row) c.self.inside.pairs.items = search rules in
    subst AreMultipliers (sym c.in-Ok.ensures.items)
    (more_multipliers c.self.inside.pairs.items c.args.row c.args.times c.self.invariant (omega (arith, c.self.invariant.few)) (omega arith) (omega arith) above)

use Rattle.std.proofs.Common.{◌≡◌, length, subst, arith}
use Rattle.affc_moduli.specs.Ended.{IsCeiling}
use Rattle.affc_moduli.proofs.ceilings.bound_of.Goals as goal

pub returns : goal.returns
returns c =
    let within = c.loop-i.invariant.within in
    let all : c.loop-i.i ≡ length c.args.asked.now.regions.now = omega arith in
    subst (λ n. IsCeiling n c.args.asked.now.regions.now c.args.asked.now.line.fs.now c.args.asked.now.line.gs.now c.loop-i.bound.most) all c.loop-i.invariant.ceiling

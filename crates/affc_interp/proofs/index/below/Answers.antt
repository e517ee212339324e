use Rattle.std.proofs.Common.{suc, ◌-◌, ◌∙◌, ap, arith}
use Rattle.affc_interp.specs.Operands.{below, first_operand}
use Rattle.affc_interp.proofs.index.below.Goals as goal

pub loop-preserved : goal.loop-preserved
loop-preserved c = λ k is.
    let h = c.loop.invariant (suc k) (omega arith) in
    let e = c.in-Some.ensures in
    (ap (below first_operand k) e.0 ∙ h.0, omega (arith, h, e))

pub returns : goal.returns
returns c = (c.loop.invariant 0 (omega arith)).0

pub unreachable-requires : goal.unreachable-requires
unreachable-requires c =
    let t = c.loop-test.true in
    let h = c.loop.invariant (c.args.count - c.loop.counter) (omega (arith, t)) in
    let e = c.in_default.ensures in
    omega (arith, t, h, e)

use Rattle.std.proofs.Common.{◌∙◌, sym, ap, arith}
use Rattle.affc_interp.specs.Operands.{below, first_value, value_operators}
use Rattle.affc_interp.proofs.value.innermost.Goals as goal

pub loop-a-preserved : goal.loop-a-preserved
loop-a-preserved c =
    let e = c.in-Some.ensures in
    record {
      count = let i = c.loop-a.invariant.count in omega (arith, e, i);
      same = ap (below first_value (value_operators c.in-Some.a.now)) e.0 ∙ sym (ap (λ n. below first_value n c.loop-a.here.now) e.1) ∙ c.loop-a.invariant.same;
    }

use Rattle.std.proofs.Common.{arith, rules}
use Rattle.affc_farkas.proofs.Exact.{rising_more, rising_before}
use Rattle.affc_farkas.proofs.proof.is_rising.Goals as goal

pub returns-then-not-is_above : goal.returns-then-not-is_above
returns-then-not-is_above c = (
  (λ t. cc),
  (λ r. let t = c.is_above.ensures.1 (rising_before c.args.pairs.now c.loop-i.i (0, 0) (omega arith) r) in search rules),
)

pub loop-i-preserved : goal.loop-i-preserved
loop-i-preserved c = rising_more c.args.pairs.now c.loop-i.i (0, 0) (omega arith) c.loop-i.invariant (c.is_above.ensures.0 (search rules))

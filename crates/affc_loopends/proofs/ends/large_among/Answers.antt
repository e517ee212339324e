use Rattle.std.proofs.Common.{refl}
use Rattle.affc_loopends.specs.Sizes.{IsModest}
use Rattle.affc_loopends.proofs.Chosen.{all_taken, one_taken}
use Rattle.affc_loopends.proofs.ends.large_among.Goals as goal

pub loop-i-preserved : goal.loop-i-preserved
loop-i-preserved c = one_taken (IsModest c.args.ranges.now) c.args.rows.now c.loop-i.i c.index-rows-i.result c.loop-i-test.true c.index-rows-i.is c.loop-i.invariant (c.if-not-is_modest.ensures.yes refl)

pub returns-clause-none : goal.returns-clause-none
returns-clause-none c = all_taken (IsModest c.args.ranges.now) c.args.rows.now c.loop-i.i c.loop-i-test.false c.loop-i.invariant

use Rattle.affc_names.proofs.LineLaws.{ranges_turn}
use Rattle.affc_names.proofs.lines.ranges_of.Goals as goal

pub loop-line-preserved : goal.loop-line-preserved
loop-line-preserved c = λ w. ranges_turn c.args.lines.now c.loop-line.line-index c.line-item.result _ _ w c.loop-line-test.true c.line-item.is (c.loop-line.invariant w) (c.in_ok-add_line.ensures w)

use Rattle.affc_loopends.proofs.Statements.{ends_step}
use Rattle.affc_loopends.proofs.statement.ends_from.Goals as goal

pub loop-column-preserved : goal.loop-column-preserved
loop-column-preserved c = ends_step c.args.system.now c.args.first c.loop-column.column c.args.ranges.now c.loop-column.all.items c.push.new.self.items c.in_ok-bounds.bounds c.loop-column.invariant c.in_ok-push.ensures.items c.in_ok-bounds.ensures

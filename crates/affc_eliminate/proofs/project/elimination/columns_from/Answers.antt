use Rattle.affc_eliminate.proofs.project.Ends.{columns_more}
use Rattle.affc_eliminate.proofs.project.elimination.columns_from.Goals as goal

pub loop-column-preserved : goal.loop-column-preserved
loop-column-preserved c =
    let more = columns_more c.args.first c.loop-column.column c.loop-column.left.items c.push.new.self.items c.loop-column.auto.column c.in_ok-push.ensures.items c.loop-column.invariant.inside c.loop-column.invariant.all in
    record { inside = more.0; all = more.1 }

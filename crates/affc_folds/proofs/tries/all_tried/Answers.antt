use Rattle.std.proofs.Common.{length, arith}
use Rattle.affc_trace.specs.Dataflow.{LivePair}
use Rattle.affc_split.proofs.maximum.Laters.{then_later}
use Rattle.affc_life.proofs.BasisLemmas.{listed_rows}
use Rattle.affc_folds.proofs.TryLemmas.{listed_at, next_tried}
use Rattle.affc_folds.proofs.tries.all_tried.Goals as goal

pub tried-requires-clause-rows : goal.tried-requires-clause-rows
tried-requires-clause-rows g c =
    let dimensions = length c.args.temporary.now.info.now.extents in
    listed_rows dimensions c.loop-basis.basis-index c.basis-item.result (listed_at dimensions c.args.bases.now c.requires.bases c.loop-basis.basis-index c.basis-item.result (omega arith) c.basis-item.is)

pub loop-basis-preserved : goal.loop-basis-preserved
loop-basis-preserved g c =
    let next =
    next_tried (g.F.Cost.answers c.args.cost.now.cost) c.args.temporary.now.asked.program.now (LivePair c.args.temporary.now.asked.program.now c.args.temporary.now.asked.schedule.now) c.args.temporary.now.array.0 c.loop-basis.budget c.tried.new.budget c.tried.ensures.later
    (length c.args.temporary.now.info.now.extents) c.args.bases.now c.requires.bases c.loop-basis.basis-index c.basis-item.result (omega arith) c.basis-item.is
    c.loop-basis.found c.loop-basis.invariant.found c.loop-basis.invariant.one_each c.in_ok-one.one c.in_ok-one.ensures.tried c.push.new.self c.in_ok-push.ensures.ok in
    record {
      found = next.0;
      one_each = next.1;
      later = then_later c.args.budget.now c.loop-basis.budget c.tried.new.budget c.loop-basis.invariant.later c.tried.ensures.later;
    }

use Rattle.affc_sched.specs.Pairs.{asked_of}
use Rattle.affc_sched.proofs.AddedLemmas.{more_added}
use Rattle.affc_sched.proofs.groups.legality_groups.Goals as goal

pub loop-pair-preserved : goal.loop-pair-preserved
loop-pair-preserved c =
    more_added (asked_of c.args.nest.now c.args.schedule.now) c.as_slice-pair-items.result.now c.loop-pair.pair-index c.pair-item.result c.loop-pair.groups.items c.add_group.new.out.items
    c.loop-pair-test.true c.pair-item.is c.loop-pair.invariant c.in_ok-add_group.ensures

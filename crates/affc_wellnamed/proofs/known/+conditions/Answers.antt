use Rattle.affc_wellnamed.specs.Known.{is_joined_by, cond_seen, cond_known}
use Rattle.affc_wellnamed.specs.Sights.{known_in}
use Rattle.affc_wellnamed.proofs.Sighted.{entry_on, entry_off, each_stops, each_goes}
use Rattle.affc_wellnamed.proofs.known.+conditions.Goals as goal

pub entry_known-returns-then-not-is_joined_by : goal.entry_known-returns-then-not-is_joined_by
entry_known-returns-then-not-is_joined_by t c =
    let k = known_in c.args.prelude c.args.sight.now in
    entry_on (is_joined_by c.args.all (cond_seen k c.args.c.now)) (cond_known k c.args.c.now) c.is_joined_by.result c.cond_known.result c.if-not-is_joined_by.true (c.is_joined_by.ensures k) c.cond_known.ensures

pub entry_known-returns-else-not-is_joined_by : goal.entry_known-returns-else-not-is_joined_by
entry_known-returns-else-not-is_joined_by t c =
    let k = known_in c.args.prelude c.args.sight.now in
    entry_off (is_joined_by c.args.all (cond_seen k c.args.c.now)) (cond_known k c.args.c.now) c.is_joined_by.result c.if-not-is_joined_by.false (c.is_joined_by.ensures k)

pub each_known-returns-then-not-entry_known : goal.each_known-returns-then-not-entry_known
each_known-returns-then-not-entry_known t c =
    each_stops (known_in c.args.prelude c.args.sight.now) c.args.all c.args.cs.now c.loop-c.c-index c.c-item.result c.entry_known.result c.loop-c-test.true c.c-item.is c.entry_known.ensures c.if-not-entry_known.true c.loop-c.invariant

pub each_known-loop-c-preserved : goal.each_known-loop-c-preserved
each_known-loop-c-preserved t c =
    each_goes (known_in c.args.prelude c.args.sight.now) c.args.all c.args.cs.now c.loop-c.c-index c.c-item.result c.entry_known.result c.loop-c-test.true c.c-item.is c.entry_known.ensures c.if-not-entry_known.false c.loop-c.invariant

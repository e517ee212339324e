use Rattle.affc_sched.proofs.PairLemmas.{is_counted, few_subs}
use Rattle.affc_sched.proofs.GroupLemmas.{no_items, none_later, all_in_group}
use Rattle.affc_sched.proofs.groups.pair_group.Goals as goal

pub source_before-requires-clause-first : goal.source_before-requires-clause-first
source_before-requires-clause-first c = is_counted c.args.nest.now c.args.schedule.now c.requires.asked c.args.pair.now.from.entry.now c.requires.pair.from.there

pub source_before-requires-clause-second : goal.source_before-requires-clause-second
source_before-requires-clause-second c = is_counted c.args.nest.now c.args.schedule.now c.requires.asked c.args.pair.now.to.entry.now c.requires.pair.to.there

pub target_after-requires-clause-first : goal.target_after-requires-clause-first
target_after-requires-clause-first c = is_counted c.args.nest.now c.args.schedule.now c.requires.asked c.args.pair.now.from.entry.now c.requires.pair.from.there

pub target_after-requires-clause-second : goal.target_after-requires-clause-second
target_after-requires-clause-second c = is_counted c.args.nest.now c.args.schedule.now c.requires.asked c.args.pair.now.to.entry.now c.requires.pair.to.there

pub returns-then-is_empty-2 : goal.returns-then-is_empty-2
returns-then-is_empty-2 c =
    let p = c.args.pair.now in
    none_later c.args.nest.now c.args.schedule.now p.from.entry.now p.to.entry.now p.from.access.now p.to.access.now c.in_ok-later.later.items
    (no_items c.in_ok-later.later c.is_empty-2.result c.is_empty-2.ensures c.if-is_empty-2.true) c.in_ok-later.ensures.rows

pub pair_rows-requires-clause-few : goal.pair_rows-requires-clause-few
pair_rows-requires-clause-few c = few_subs c.args.nest.now c.args.schedule.now c.requires.asked c.args.pair.now.from.entry.now c.requires.pair.from.there c.args.pair.now.from.access.now c.requires.pair.from.among

pub returns : goal.returns
returns c =
    let p = c.args.pair.now in (
      all_in_group c.args.nest.now c.args.schedule.now p.from.entry.now p.to.entry.now p.from.access.now p.to.access.now c.in_ok-rows.rows c.in_ok-earlier.earlier.items c.in_ok-later.later.items c.in_ok-group.group
          c.in_ok-rows.ensures.value c.in_ok-earlier.ensures.rows c.in_ok-later.ensures.rows c.in_ok-group.ensures.value,
      c.in_ok-group.ensures.within,
    )

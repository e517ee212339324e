use Rattle.std.proofs.Common.{map, ap, sym, subst}
use Rattle.affc_order.proofs.CodeLemmas.{is_nest}
use Rattle.affc_sched.proofs.Lists.{all_there}
use Rattle.affc_quast.specs.Seen.{seen, trees_of}
use Rattle.affc_life.specs.Asked.{KeepLimits}
use Rattle.affc_life.specs.Drafts.{walk_of}
use Rattle.affc_life.proofs.DraftedLemmas.{all_drafted, all_paired}
use Rattle.affc_life.proofs.PairedLemmas.{target_keeps_width}
use Rattle.affc_life.proofs.walk.drafts_of.Goals as goal

pub add_readers-requires-clause-limits : goal.add_readers-requires-clause-limits
add_readers-requires-clause-limits c = subst (KeepLimits c.args.asked.now.nest.now) (ap (map seen) (sym c.as_slice-trees.ensures)) c.requires.trees

pub add_readers-requires-clause-readers : goal.add_readers-requires-clause-readers
add_readers-requires-clause-readers c = all_there c.args.asked.now.nest.now c.as_slice-readers.result.now c.as_slice-readers.ensures

pub returns-clause-all : goal.returns-clause-all
returns-clause-all c = all_drafted c.args.asked.now.nest.now (trees_of c.args.flow.now) (map seen c.as_slice-trees.result.now) (walk_of c.args.asked.now) c.as_slice-readers.result.now c.new-drafts.result.items c.add_readers.new.out.items c.new-drafts.ensures.items c.as_slice-readers.ensures (ap (map seen) c.as_slice-trees.ensures) c.in_ok-add_readers.ensures

pub returns-clause-paired : goal.returns-clause-paired
returns-clause-paired c =
    all_paired c.args.asked.now.nest.now (trees_of c.args.flow.now) (map seen c.as_slice-trees.result.now) (walk_of c.args.asked.now) c.as_slice-readers.result.now c.new-drafts.result.items c.add_readers.new.out.items c.new-drafts.ensures.items c.as_slice-readers.ensures (ap (map seen) c.as_slice-trees.ensures) c.in_ok-add_readers.ensures
    (is_nest c.args.asked.now.nest.now c.args.asked.now.after.now c.requires.scheduled.after) c.requires.trees
    (target_keeps_width c.args.asked.now.nest.now c.args.asked.now.after.now) (target_keeps_width c.args.asked.now.nest.now c.args.asked.now.before.now)

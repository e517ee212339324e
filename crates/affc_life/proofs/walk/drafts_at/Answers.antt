use Rattle.std.proofs.Common.{flat_map, ◌++◌, ap, sym, subst, ◌∙◌}
use Rattle.std.specs.List.{All}
use Rattle.affc_order.proofs.CodeLemmas.{is_nest}
use Rattle.affc_quast.specs.SeenLeaves.{leaf_seen}
use Rattle.affc_life.specs.Drafts.{drafted, IsPaired, walk_of, clashes_of_leaf}
use Rattle.affc_life.proofs.PairedLemmas.{target_keeps_width, leaf_paired}
use Rattle.affc_life.proofs.walk.drafts_at.Goals as goal

pub returns-clause-all : goal.returns-clause-all
returns-clause-all c =
    let a = c.args.asked.now in
    c.in_ok-add_leaf.ensures ∙ ap (λ ds. flat_map drafted ds ++ clashes_of_leaf a.nest.now (walk_of a) c.args.reader.now c.args.load.now (leaf_seen c.args.leaf.now)) c.new-drafts.ensures.items

pub returns-clause-paired : goal.returns-clause-paired
returns-clause-paired c =
    let a = c.args.asked.now in
    let all = c.in_ok-add_leaf.ensures ∙ ap (λ ds. flat_map drafted ds ++ clashes_of_leaf a.nest.now (walk_of a) c.args.reader.now c.args.load.now (leaf_seen c.args.leaf.now)) c.new-drafts.ensures.items in
    subst (All IsPaired) (sym all)
    (leaf_paired a.nest.now (is_nest a.nest.now a.after.now c.requires.scheduled.after) (walk_of a) c.args.reader.now c.args.load.now c.requires.reads c.requires.load (leaf_seen c.args.leaf.now) c.requires.path
    (target_keeps_width a.nest.now a.after.now) (target_keeps_width a.nest.now a.before.now))

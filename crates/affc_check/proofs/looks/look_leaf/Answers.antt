use Rattle.std.proofs.Common.{◌++◌, ap, subst, ◌∙◌}
use Rattle.std.proofs.lemmas.Result.{IfOk-weaker, IfErr-weaker}
use Rattle.affc_quast.specs.SeenLeaves.{leaf_seen}
use Rattle.affc_check.specs.Looked.{AreLooked}
use Rattle.affc_check.specs.list.Groups.{part_items}
use Rattle.affc_check.specs.list.Limits.{AnyPasses}
use Rattle.affc_check.specs.list.Walks.{leaf_items}
use Rattle.affc_check.proofs.looks.look_leaf.Goals as goal

pub returns-clause-ok : goal.returns-clause-ok
returns-clause-ok c =
    let items = leaf_items c.args.nest.now c.args.of.now.reader.now c.args.of.now.load.now (leaf_seen c.args.leaf.now) in
    let is = ap part_items c.as_slice.ensures.value ∙ c.in_ok-add_leaf.ensures ∙ ap (λ gs. part_items gs ++ items) c.new-groups.ensures.items in
    IfOk-weaker c.look_groups.result _ _ (λ new h. subst (AreLooked c.args.looked new) is h) c.look_groups.ensures.ok

pub returns-clause-past : goal.returns-clause-past
returns-clause-past c =
    let items = leaf_items c.args.nest.now c.args.of.now.reader.now c.args.of.now.load.now (leaf_seen c.args.leaf.now) in
    let is = ap part_items c.as_slice.ensures.value ∙ c.in_ok-add_leaf.ensures ∙ ap (λ gs. part_items gs ++ items) c.new-groups.ensures.items in
    IfErr-weaker c.look_groups.result _ _ (λ e h l. subst AnyPasses is (h l)) c.look_groups.ensures.past

use Rattle.std.proofs.Common.{◌++◌, map, ap, ◌∙◌}
use Rattle.std.proofs.lemmas.Result.{on_ok_weaker}
use Rattle.affc_quast.specs.Leaves.{path_ranges}
use Rattle.affc_quast.specs.SeenLeaves.{leaf_seen}
use Rattle.affc_questions.proofs.LeafLemmas.{of_path}
use Rattle.affc_check.specs.list.Groups.{part_items}
use Rattle.affc_check.specs.list.Held.{flow_item}
use Rattle.affc_check.proofs.list.GroupLemmas.{part_append}
use Rattle.affc_check.proofs.list.ListLemmas.{by_groups}
use Rattle.affc_check.proofs.list.trees.add_leaf.Goals as goal

pub leaf_questions-requires : goal.leaf_questions-requires
leaf_questions-requires c = of_path c.args.nest.now c.args.reader.now c.args.load.now (leaf_seen c.args.leaf.now) c.requires.nested c.requires.reads c.requires.load c.requires.path

pub returns : goal.returns
returns c =
    let ranges = c.args.nest.now.params ++ c.args.reader.now.ranges in
    let ranged = c.in_ok-ranged.ranged.items in
    let old = c.args.out.now.items in
    on_ok_weaker c.add_ranged.result
    (λ e. ap part_items e ∙ part_append old (map (λ r. r.group) ranged)
    ∙ ap (λ is. part_items old ++ is) (by_groups (path_ranges ranges (leaf_seen c.args.leaf.now).divisions) ranged ∙ ap (map flow_item) (c.in_ok-ranged.ensures ranges)))
    c.add_ranged.ensures

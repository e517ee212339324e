use Rattle.std.proofs.Common.{◌+◌, ◌≤◌, ◌++◌, length, map, flat_map, ap, sym, subst, ◌∙◌}
use Rattle.std.proofs.lemmas.Result.{on_ok_weaker}
use Rattle.affc_quast.specs.Leaves.{leaves_of}
use Rattle.affc_quast.specs.Limits.{Shaped}
use Rattle.affc_quast.specs.Seen.{seen}
use Rattle.affc_quast.specs.SeenLeaves.{leaf_seen}
use Rattle.affc_quast.specs.Trees.{divisions_of}
use Rattle.affc_life.proofs.LeafLemmas.{paths_of, few_divisions}
use Rattle.affc_check.specs.list.Groups.{part_items}
use Rattle.affc_check.specs.list.Walks.{leaf_items}
use Rattle.affc_check.proofs.list.trees.add_tree.Goals as goal

pub leaves-requires-clause-shaped : goal.leaves-requires-clause-shaped
leaves-requires-clause-shaped c = subst (λ k. Shaped k (seen c.args.tree.now)) (sym c.columns_of.ensures.value) c.requires.tree.shaped

pub leaves-requires-clause-room : goal.leaves-requires-clause-room
leaves-requires-clause-room c =
    subst (λ k. k + divisions_of (seen c.args.tree.now) ≤ 1000) (sym c.columns_of.ensures.value)
    (few_divisions c.args.nest.now (length c.args.nest.now.params + length c.args.reader.now.loops) (seen c.args.tree.now) c.requires.tree (subst (λ k. k ≤ 10) c.columns_of.ensures.value c.columns_of.ensures.few))

pub add_leaves-requires-clause-paths : goal.add_leaves-requires-clause-paths
add_leaves-requires-clause-paths c =
    paths_of c.args.nest.now (length c.args.nest.now.params + length c.args.reader.now.loops) (seen c.args.tree.now) c.requires.tree (map leaf_seen c.as_slice.result.now)
    (ap (map leaf_seen) c.as_slice.ensures.value ∙ c.in_ok-leaves.ensures ∙ ap (λ k. leaves_of k (seen c.args.tree.now)) c.columns_of.ensures.value)

pub returns : goal.returns
returns c =
    let is = ap (flat_map (leaf_items c.args.nest.now c.args.reader.now c.args.load.now)) (ap (map leaf_seen) c.as_slice.ensures.value ∙ c.in_ok-leaves.ensures ∙ ap (λ k. leaves_of k (seen c.args.tree.now)) c.columns_of.ensures.value) in
    on_ok_weaker c.add_leaves.result (λ h. h ∙ ap (λ s. part_items c.args.out.now.items ++ s) is) c.add_leaves.ensures

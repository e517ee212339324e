use Rattle.std.proofs.Common.{◌+◌, ◌≤◌, flat_map, length, sym, ap, subst, ◌∙◌}
use Rattle.std.proofs.lemmas.Result.{IfOk-weaker, IfErr-weaker}
use Rattle.affc_quast.specs.Limits.{Shaped}
use Rattle.affc_quast.specs.Seen.{seen}
use Rattle.affc_quast.specs.Trees.{divisions_of}
use Rattle.affc_quast.specs.declared.leaves.Leaf.{Leaf}
use Rattle.affc_life.proofs.LeafLemmas.{paths_of, few_divisions}
use Rattle.affc_check.specs.Looked.{AreLooked}
use Rattle.affc_life.specs.Paths.{leaves_under}
use Rattle.affc_check.specs.list.Limits.{AnyPasses}
use Rattle.affc_check.specs.list.Walks.{leaf_items}
use Rattle.affc_life.proofs.PathLemmas.{path_to_root}
use Rattle.affc_check.proofs.list.TreeLemmas.{tree_items}
use Rattle.affc_check.proofs.looks.look_load.Goals as goal

pub look_tree-requires-clause-open : goal.look_tree-requires-clause-open
look_tree-requires-clause-open c = ap (λ (p : Leaf). p.named) c.root-path.ensures

pub look_tree-requires-clause-shaped : goal.look_tree-requires-clause-shaped
look_tree-requires-clause-shaped c =
    subst (λ k. Shaped k (seen c.args.of.now.tree.now)) (sym (ap (λ (p : Leaf). p.columns) c.root-path.ensures ∙ c.columns_of.ensures.value)) c.requires.loaded.tree.shaped

pub look_tree-requires-clause-room : goal.look_tree-requires-clause-room
look_tree-requires-clause-room c =
    let tree = seen c.args.of.now.tree.now in
    subst (λ k. k + divisions_of tree ≤ 1000) (sym (ap (λ (p : Leaf). p.columns) c.root-path.ensures ∙ c.columns_of.ensures.value))
    (few_divisions c.args.nest.now (length c.args.nest.now.params + length c.args.of.now.reader.now.loops) tree c.requires.loaded.tree (subst (λ k. k ≤ 10) c.columns_of.ensures.value c.columns_of.ensures.few))

pub look_tree-requires-clause-paths : goal.look_tree-requires-clause-paths
look_tree-requires-clause-paths c =
    let tree = seen c.args.of.now.tree.now in
    let n = length c.args.nest.now.params + length c.args.of.now.reader.now.loops in
    paths_of c.args.nest.now n tree c.requires.loaded.tree (leaves_under c.root-path.result tree) (path_to_root c.root-path.result tree c.columns_of.result n c.root-path.ensures c.columns_of.ensures.value)

pub returns-clause-ok : goal.returns-clause-ok
returns-clause-ok c =
    let nest = c.args.nest.now in
    let reader = c.args.of.now.reader.now in
    let load = c.args.of.now.load.now in
    let tree = seen c.args.of.now.tree.now in
    let n = length nest.params + length reader.loops in
    let is = ap (flat_map (leaf_items nest reader load)) (path_to_root c.root-path.result tree c.columns_of.result n c.root-path.ensures c.columns_of.ensures.value) ∙ tree_items nest reader load tree in
    IfOk-weaker c.look_tree.result _ _ (λ new h. subst (AreLooked c.args.looked new) is h) c.look_tree.ensures.ok

pub returns-clause-past : goal.returns-clause-past
returns-clause-past c =
    let nest = c.args.nest.now in
    let reader = c.args.of.now.reader.now in
    let load = c.args.of.now.load.now in
    let tree = seen c.args.of.now.tree.now in
    let n = length nest.params + length reader.loops in
    let is = ap (flat_map (leaf_items nest reader load)) (path_to_root c.root-path.result tree c.columns_of.result n c.root-path.ensures c.columns_of.ensures.value) ∙ tree_items nest reader load tree in
    IfErr-weaker c.look_tree.result _ _ (λ e h l. subst AnyPasses is (h l)) c.look_tree.ensures.past

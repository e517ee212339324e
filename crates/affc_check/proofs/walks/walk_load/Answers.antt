use Rattle.std.proofs.Common.{◌+◌, ◌≤◌, flat_map, length, sym, ap, subst, ◌∙◌}
use Rattle.std.proofs.lemmas.Result.{IfOk-weaker, IfErr-weaker}
use Rattle.affc_order.proofs.CodeLemmas.{is_nest}
use Rattle.affc_quast.specs.Limits.{Shaped}
use Rattle.affc_quast.specs.Seen.{seen}
use Rattle.affc_quast.specs.Trees.{divisions_of}
use Rattle.affc_quast.specs.declared.leaves.Leaf.{Leaf}
use Rattle.affc_life.specs.Paths.{leaves_under}
use Rattle.affc_life.proofs.LeafLemmas.{paths_of, few_divisions}
use Rattle.affc_life.proofs.PathLemmas.{path_to_root}
use Rattle.affc_check.specs.Walked.{AreAlong, Walked, Breaks, leaf_clashes}
use Rattle.affc_check.proofs.WalkedLemmas.{each_walked, load_clashes}
use Rattle.affc_check.proofs.walks.walk_load.Goals as goal

pub columns_of-requires-clause-nested : goal.columns_of-requires-clause-nested
columns_of-requires-clause-nested c = is_nest c.args.asked.now.nest.now c.args.asked.now.schedule.now c.requires.scheduled

pub walk_tree-requires-clause-open : goal.walk_tree-requires-clause-open
walk_tree-requires-clause-open c = ap (λ (p : Leaf). p.named) c.root-path.ensures

pub walk_tree-requires-clause-shaped : goal.walk_tree-requires-clause-shaped
walk_tree-requires-clause-shaped c =
    subst (λ k. Shaped k (seen c.args.of.now.tree.now)) (sym (ap (λ (p : Leaf). p.columns) c.root-path.ensures ∙ c.columns_of.ensures.value)) c.requires.loaded.tree.shaped

pub walk_tree-requires-clause-room : goal.walk_tree-requires-clause-room
walk_tree-requires-clause-room c =
    let nest = c.args.asked.now.nest.now in
    let tree = seen c.args.of.now.tree.now in
    subst (λ k. k + divisions_of tree ≤ 1000) (sym (ap (λ (p : Leaf). p.columns) c.root-path.ensures ∙ c.columns_of.ensures.value))
    (few_divisions nest (length nest.params + length c.args.of.now.reader.now.loops) tree c.requires.loaded.tree (subst (λ k. k ≤ 10) c.columns_of.ensures.value c.columns_of.ensures.few))

pub walk_tree-requires-clause-leaves : goal.walk_tree-requires-clause-leaves
walk_tree-requires-clause-leaves c =
    let a = c.args.asked.now in
    let l = c.args.of.now in
    let tree = seen l.tree.now in
    let n = length a.nest.now.params + length l.reader.now.loops in
    let root = path_to_root c.root-path.result tree c.columns_of.result n c.root-path.ensures c.columns_of.ensures.value in
    each_walked a l (leaves_under c.root-path.result tree) (paths_of a.nest.now n tree c.requires.loaded.tree (leaves_under c.root-path.result tree) root)
    (subst (AreAlong a.along) (sym (ap (flat_map (leaf_clashes a l)) root ∙ load_clashes a l c.requires.array)) c.requires.along)

pub returns-clause-ok : goal.returns-clause-ok
returns-clause-ok c =
    let a = c.args.asked.now in
    let l = c.args.of.now in
    let tree = seen l.tree.now in
    let n = length a.nest.now.params + length l.reader.now.loops in
    let is = ap (flat_map (leaf_clashes a l)) (path_to_root c.root-path.result tree c.columns_of.result n c.root-path.ensures c.columns_of.ensures.value) ∙ load_clashes a l c.requires.array in
    IfOk-weaker c.walk_tree.result _ _ (λ new h. subst (Walked a.along c.args.carried new) is h) c.walk_tree.ensures.ok

pub returns-clause-past : goal.returns-clause-past
returns-clause-past c =
    let a = c.args.asked.now in
    let l = c.args.of.now in
    let tree = seen l.tree.now in
    let n = length a.nest.now.params + length l.reader.now.loops in
    let is = ap (flat_map (leaf_clashes a l)) (path_to_root c.root-path.result tree c.columns_of.result n c.root-path.ensures c.columns_of.ensures.value) ∙ load_clashes a l c.requires.array in
    IfErr-weaker c.walk_tree.result _ _ (λ e h q. subst (Breaks a.along) is (h q)) c.walk_tree.ensures.past

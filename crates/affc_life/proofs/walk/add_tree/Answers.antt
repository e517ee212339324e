use Rattle.std.proofs.Common.{◌≡◌, ◌+◌, ◌≤◌, ◌++◌, ℕ, Fits, w32, rules, arith, length, flat_map, ap, sym, subst, ◌∙◌}
use Rattle.std.proofs.lemmas.Result.{on_ok_weaker}
use Rattle.affc_nest.proofs.QuestionProofs.{nest_few, few_numbered}
use Rattle.affc_order.proofs.CodeLemmas.{is_nest}
use Rattle.affc_quast.specs.Limits.{Shaped}
use Rattle.affc_quast.specs.Seen.{seen}
use Rattle.affc_quast.specs.Trees.{divisions_of}
use Rattle.affc_quast.specs.declared.leaves.Leaf.{Leaf}
use Rattle.affc_life.specs.Drafts.{drafted, clashes_of_leaf, walk_of}
use Rattle.affc_life.specs.Paths.{leaves_under}
use Rattle.affc_life.proofs.LeafLemmas.{paths_of, few_divisions}
use Rattle.affc_life.proofs.PathLemmas.{path_to_root}
use Rattle.affc_life.proofs.walk.add_tree.Goals as goal

few_fit : (n : ℕ) → n ≤ 128 → Fits w32 n
few_fit n h = first_of (omega (arith, h), search (rules, h), grind (arith, h))

sum_few : (a b m l : ℕ) → a ≡ m → b ≡ l → m ≤ 4 → l ≤ 6 → a + b ≤ 10
sum_few a b m l e f h g = omega (arith, e, f, h, g)

sum_is : (a b m l : ℕ) → a ≡ m → b ≡ l → a + b ≡ m + l
sum_is a b m l e f = omega (arith, e, f)

pub params_in-requires : goal.params_in-requires
params_in-requires c = nest_few c.args.asked.now.nest.now (is_nest c.args.asked.now.nest.now c.args.asked.now.after.now c.requires.scheduled.after)

pub coordinates-requires : goal.coordinates-requires
coordinates-requires c = few_numbered c.args.asked.now.nest.now c.args.reader.now (is_nest c.args.asked.now.nest.now c.args.asked.now.after.now c.requires.scheduled.after) c.requires.reads.there

pub overflow_add-columns : goal.overflow_add-columns
overflow_add-columns c =
    let h = sum_few c.params_in.result c.coordinates.result (length c.args.asked.now.nest.now.params) (length c.args.reader.now.loops) c.params_in.ensures c.coordinates.ensures (nest_few c.args.asked.now.nest.now (is_nest c.args.asked.now.nest.now c.args.asked.now.after.now c.requires.scheduled.after))
    (few_numbered c.args.asked.now.nest.now c.args.reader.now (is_nest c.args.asked.now.nest.now c.args.asked.now.after.now c.requires.scheduled.after) c.requires.reads.there) in
    few_fit _ (omega (arith, h))

pub add_under-requires-clause-open : goal.add_under-requires-clause-open
add_under-requires-clause-open c = ap (λ (p : Leaf). p.named) c.root-path.ensures

pub add_under-requires-clause-shaped : goal.add_under-requires-clause-shaped
add_under-requires-clause-shaped c =
    let is = sum_is c.params_in.result c.coordinates.result (length c.args.asked.now.nest.now.params) (length c.args.reader.now.loops) c.params_in.ensures c.coordinates.ensures in
    subst (λ k. Shaped k (seen c.args.tree.now)) (sym (ap (λ (p : Leaf). p.columns) c.root-path.ensures ∙ is)) c.requires.tree.shaped

pub add_under-requires-clause-room : goal.add_under-requires-clause-room
add_under-requires-clause-room c =
    let nest = c.args.asked.now.nest.now in
    let is = sum_is c.params_in.result c.coordinates.result (length nest.params) (length c.args.reader.now.loops) c.params_in.ensures c.coordinates.ensures in
    let h = sum_few c.params_in.result c.coordinates.result (length nest.params) (length c.args.reader.now.loops) c.params_in.ensures c.coordinates.ensures (nest_few nest (is_nest nest c.args.asked.now.after.now c.requires.scheduled.after))
    (few_numbered nest c.args.reader.now (is_nest nest c.args.asked.now.after.now c.requires.scheduled.after) c.requires.reads.there) in
    subst (λ k. k + divisions_of (seen c.args.tree.now) ≤ 1000) (sym (ap (λ (p : Leaf). p.columns) c.root-path.ensures ∙ is)) (few_divisions nest (length nest.params + length c.args.reader.now.loops) (seen c.args.tree.now) c.requires.tree (subst (λ k. k ≤ 10) is h))

pub add_under-requires-clause-paths : goal.add_under-requires-clause-paths
add_under-requires-clause-paths c =
    let nest = c.args.asked.now.nest.now in
    let tree = seen c.args.tree.now in
    let n = length nest.params + length c.args.reader.now.loops in
    let is = sum_is c.params_in.result c.coordinates.result (length nest.params) (length c.args.reader.now.loops) c.params_in.ensures c.coordinates.ensures in
    paths_of nest n tree c.requires.tree (leaves_under c.root-path.result tree) (path_to_root c.root-path.result tree (c.params_in.result + c.coordinates.result) n c.root-path.ensures is)

pub returns : goal.returns
returns c =
    let nest = c.args.asked.now.nest.now in
    let tree = seen c.args.tree.now in
    let n = length nest.params + length c.args.reader.now.loops in
    let is = sum_is c.params_in.result c.coordinates.result (length nest.params) (length c.args.reader.now.loops) c.params_in.ensures c.coordinates.ensures in
    on_ok_weaker c.add_under.result
    (λ e. e ∙ ap (λ ls. flat_map drafted c.args.out.now.items ++ flat_map (clashes_of_leaf nest (walk_of c.args.asked.now) c.args.reader.now c.args.load.now) ls) (path_to_root c.root-path.result tree (c.params_in.result + c.coordinates.result) n c.root-path.ensures is))
    c.add_under.ensures.made

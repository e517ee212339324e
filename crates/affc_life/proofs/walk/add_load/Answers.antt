use Rattle.std.proofs.Common.{◌≡◌, true, map, flat_map, rules}
use Rattle.std.proofs.lemmas.Result.{on_ok_weaker}
use Rattle.std.specs.Prelude.{nat_eq}
use Rattle.std.proofs.lemmas.Bool.{eq-eqb}
use Rattle.affc_domain.proofs.Lists.{stands_in}
use Rattle.affc_quast.specs.Seen.{seen}
use Rattle.affc_life.specs.Drafts.{drafted, walk_of}
use Rattle.affc_life.proofs.WalkLemmas.{none_more, no_tree_load, load_made, tree_there, tree_not_there}
use Rattle.affc_life.proofs.walk.add_load.Goals as goal

pub add_tree-requires-clause-load : goal.add_tree-requires-clause-load
add_tree-requires-clause-load c = stands_in c.args.reader.now.accesses c.args.number c.args.load.now c.requires.load

pub add_tree-requires-clause-tree : goal.add_tree-requires-clause-tree
add_tree-requires-clause-tree c =
    let h = c.in-Some.ensures.lookup in
    c.requires.loads c.args.number (seen c.in-Some.tree.now) c.requires.counts (tree_there seen c.args.trees.now c.args.number c.in-Some.tree.now h.3.0 h.1)

pub returns-in-None : goal.returns-in-None
returns-in-None c =
    let a = c.args.asked.now in
    none_more (flat_map drafted c.args.out.now.items) _ (no_tree_load a.nest.now (walk_of a) c.args.reader.now (map seen c.args.trees.now) c.args.number c.args.load.now (tree_not_there seen c.args.trees.now c.args.number c.in-None.ensures.lookup.3))

pub returns-in-Some : goal.returns-in-Some
returns-in-Some c =
    let a = c.args.asked.now in
    let h = c.in-Some.ensures.lookup in
    let same : nat_eq c.args.load.now.array.0 c.args.asked.now.loaded.0 ≡ true = search (rules, eq-eqb, c.if-load-asked.false) in
    on_ok_weaker c.add_tree.result
    (load_made a.nest.now (walk_of a) c.args.reader.now (map seen c.args.trees.now) c.args.number c.args.load.now (seen c.in-Some.tree.now) (flat_map drafted c.args.out.now.items) (flat_map drafted c.add_tree.new.out.items) same
    (tree_there seen c.args.trees.now c.args.number c.in-Some.tree.now h.3.0 h.1))
    c.add_tree.ensures

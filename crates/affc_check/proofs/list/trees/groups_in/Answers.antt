use Rattle.std.proofs.Common.{flat_map, ◌+◌, ◌++◌, length, ap, sym, subst, ◌∙◌}
use Rattle.affc_quast.specs.Leaves.{leaves_of}
use Rattle.affc_quast.specs.Seen.{seen}
use Rattle.affc_check.specs.list.Groups.{part_items}
use Rattle.affc_check.specs.list.Loads.{part_said, IsPart, IsLoaded}
use Rattle.affc_check.specs.list.Walks.{leaf_items}
use Rattle.affc_check.proofs.list.TreeLemmas.{tree_items}
use Rattle.affc_check.proofs.list.trees.groups_in.Goals as goal

pub add_tree-requires-clause-reads : goal.add_tree-requires-clause-reads
add_tree-requires-clause-reads c = let h : IsLoaded c.args.nest.now c.in-Some.of = subst (IsPart c.args.nest.now) c.in-Some.is c.requires.part in h.reads

pub add_tree-requires-clause-load : goal.add_tree-requires-clause-load
add_tree-requires-clause-load c = let h : IsLoaded c.args.nest.now c.in-Some.of = subst (IsPart c.args.nest.now) c.in-Some.is c.requires.part in h.load

pub add_tree-requires-clause-tree : goal.add_tree-requires-clause-tree
add_tree-requires-clause-tree c = let h : IsLoaded c.args.nest.now c.in-Some.of = subst (IsPart c.args.nest.now) c.in-Some.is c.requires.part in h.tree

pub returns-in-None : goal.returns-in-None
returns-in-None c = ap part_items c.new.ensures ∙ ap (part_said c.args.nest.now) (sym c.in-None.is)

pub returns-in_ok-add_tree-in-Some : goal.returns-in_ok-add_tree-in-Some
returns-in_ok-add_tree-in-Some c =
    let nest = c.args.nest.now in
    let reader = c.in-Some.of.reader.now in
    let load = c.in-Some.of.load.now in
    let tree = seen c.in-Some.of.tree.now in
    ap part_items c.from_vec.ensures ∙ c.in_ok-add_tree-in-Some.ensures
    ∙ ap (λ p. part_items p ++ flat_map (leaf_items nest reader load) (leaves_of (length nest.params + length reader.loops) tree)) c.new-groups.ensures.items
    ∙ tree_items nest reader load tree ∙ ap (part_said nest) (sym c.in-Some.is)

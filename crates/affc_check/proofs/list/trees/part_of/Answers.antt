use Rattle.std.proofs.Common.{map, ap, sym}
use Rattle.affc_quast.specs.Seen.{seen}
use Rattle.affc_life.proofs.WalkLemmas.{no_tree_load, tree_there, tree_not_there}
use Rattle.affc_check.specs.list.Walks.{load_items}
use Rattle.affc_check.proofs.list.LoadLemmas.{tree_clashes}
use Rattle.affc_check.proofs.list.trees.part_of.Goals as goal

pub returns-in-None-clause-said : goal.returns-in-None-clause-said
returns-in-None-clause-said c =
    ap (load_items c.args.nest.now c.args.reader.now c.args.load.now) (sym (tree_not_there seen c.args.trees.now c.args.number c.in-None.ensures.lookup.3))

pub returns-in-None-clause-clashing : goal.returns-in-None-clause-clashing
returns-in-None-clause-clashing c = λ walk.
    sym (no_tree_load c.args.nest.now walk c.args.reader.now (map seen c.args.trees.now) c.args.number c.args.load.now (tree_not_there seen c.args.trees.now c.args.number c.in-None.ensures.lookup.3))

pub returns-in-Some-clause-clashing : goal.returns-in-Some-clause-clashing
returns-in-Some-clause-clashing c = λ walk.
    let h = c.in-Some.ensures.lookup in
    tree_clashes c.args.nest.now walk c.args.reader.now (map seen c.args.trees.now) c.args.number c.args.load.now (seen c.in-Some.tree.now) (tree_there seen c.args.trees.now c.args.number c.in-Some.tree.now h.3.0 h.1)

pub returns-in-Some-clause-said : goal.returns-in-Some-clause-said
returns-in-Some-clause-said c =
    let h = c.in-Some.ensures.lookup in
    ap (load_items c.args.nest.now c.args.reader.now c.args.load.now) (sym (tree_there seen c.args.trees.now c.args.number c.in-Some.tree.now h.3.0 h.1))

pub returns-in-Some-clause-part : goal.returns-in-Some-clause-part
returns-in-Some-clause-part c =
    let h = c.in-Some.ensures.lookup in
    record {
      reads = c.requires.reads;
      load = c.requires.load;
      tree = c.requires.loads c.args.number (seen c.in-Some.tree.now) c.requires.counts (tree_there seen c.args.trees.now c.args.number c.in-Some.tree.now h.3.0 h.1);
    }

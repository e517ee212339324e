use Rattle.std.proofs.Common.{◌+◌, ◌∷◌, [], length, flat_map, sym, ap, subst, ◌∙◌}
use Rattle.std.specs.List.{All}
use Rattle.affc_quast.specs.SeenLeaves.{leaf_seen}
use Rattle.affc_nest.specs.Wide.{IsWide}
use Rattle.affc_life.specs.Clashes.{differing}
use Rattle.affc_life.specs.Drafts.{drafted, walk_of, instance_named}
use Rattle.affc_life.proofs.SeatedLemmas.{writer_few, at_leaf, load_subscripts, store_subscripts, store_made}
use Rattle.affc_life.proofs.ProductLemmas.{draft_more}
use Rattle.affc_life.proofs.SubscriptLemmas.{subscripts_wide}
use Rattle.affc_life.proofs.stores.add_store.Goals as goal

pub loaded-requires-clause-seated : goal.loaded-requires-clause-seated
loaded-requires-clause-seated c = at_leaf c.args.asked.now.nest.now c.args.reader.now (leaf_seen c.args.leaf.now) c.args.writer.now c.requires.seated

pub stored-requires-clause-seated : goal.stored-requires-clause-seated
stored-requires-clause-seated c = at_leaf c.args.asked.now.nest.now c.args.reader.now (leaf_seen c.args.leaf.now) c.args.writer.now c.requires.seated

pub front_rows-requires : goal.front_rows-requires
front_rows-requires c = at_leaf c.args.asked.now.nest.now c.args.reader.now (leaf_seen c.args.leaf.now) c.args.writer.now c.requires.seated

pub stored_after-requires-clause-seated : goal.stored_after-requires-clause-seated
stored_after-requires-clause-seated c = at_leaf c.args.asked.now.nest.now c.args.reader.now (leaf_seen c.args.leaf.now) c.args.writer.now c.requires.seated

pub stored_before-requires-clause-seated : goal.stored_before-requires-clause-seated
stored_before-requires-clause-seated c = at_leaf c.args.asked.now.nest.now c.args.reader.now (leaf_seen c.args.leaf.now) c.args.writer.now c.requires.seated

pub columns_in-columns-requires-clause-leaf : goal.columns_in-columns-requires-clause-leaf
columns_in-columns-requires-clause-leaf c = (at_leaf c.args.asked.now.nest.now c.args.reader.now (leaf_seen c.args.leaf.now) c.args.writer.now c.requires.seated).few

pub columns_in-columns-requires-clause-writer : goal.columns_in-columns-requires-clause-writer
columns_in-columns-requires-clause-writer c = writer_few c.args.asked.now.nest.now c.args.reader.now (leaf_seen c.args.leaf.now) c.args.writer.now (at_leaf c.args.asked.now.nest.now c.args.reader.now (leaf_seen c.args.leaf.now) c.args.writer.now c.requires.seated)

pub factors_between-requires-clause-firsts : goal.factors_between-requires-clause-firsts
factors_between-requires-clause-firsts c =
    subst (λ k. All (IsWide k) c.as_slice-xs.result.now) (sym c.columns_in-columns.ensures)
    (subst (All (IsWide (c.args.leaf.now.columns + length c.args.writer.now.loops))) (sym (c.as_slice-xs.ensures.value ∙ c.in_ok-x.ensures))
    (subscripts_wide (c.args.leaf.now.columns + length c.args.writer.now.loops) _ (load_subscripts c.args.asked.now.nest.now c.args.reader.now (leaf_seen c.args.leaf.now) c.args.writer.now (at_leaf c.args.asked.now.nest.now c.args.reader.now (leaf_seen c.args.leaf.now) c.args.writer.now c.requires.seated) c.args.load.now c.requires.load)))

pub factors_between-requires-clause-seconds : goal.factors_between-requires-clause-seconds
factors_between-requires-clause-seconds c =
    subst (λ k. All (IsWide k) c.as_slice-ys.result.now) (sym c.columns_in-columns.ensures)
    (subst (All (IsWide (c.args.leaf.now.columns + length c.args.writer.now.loops))) (sym (c.as_slice-ys.ensures.value ∙ c.in_ok-y.ensures))
    (subscripts_wide (c.args.leaf.now.columns + length c.args.writer.now.loops) _ (store_subscripts c.args.asked.now.nest.now c.args.reader.now (leaf_seen c.args.leaf.now) c.args.writer.now (at_leaf c.args.asked.now.nest.now c.args.reader.now (leaf_seen c.args.leaf.now) c.args.writer.now c.requires.seated) c.args.store.now c.requires.store)))

pub returns : goal.returns
returns c =
    let after = c.in_ok-after.after.items in
    let before = c.in_ok-before.before.items in
    let differ = c.args.asked.now.differ in
    let old = flat_map drafted c.args.out.now.items in
    let factors =
    c.in_ok-factors.ensures
    ∙ ap (λ factor. after ∷ before ∷ factor ∷ []) (ap (λ xs. differing differ xs c.as_slice-ys.result.now []) c.as_slice-xs.ensures.value ∙ ap (λ ys. differing differ c.in_ok-x.x.items ys []) c.as_slice-ys.ensures.value) in
    store_made c.args.asked.now.nest.now c.args.reader.now (leaf_seen c.args.leaf.now) c.args.writer.now (walk_of c.args.asked.now) c.args.load.now (instance_named c.args.named.now) c.args.store.now c.columns_in-columns.result c.in_ok-ranges.ranges
    c.in_ok-x.x.items c.in_ok-y.y.items c.in_ok-front.front.items after before old (flat_map drafted c.push.new.self.items) c.columns_in-columns.ensures
    c.in_ok-ranges.ensures c.in_ok-x.ensures c.in_ok-y.ensures c.in_ok-front.ensures c.in_ok-after.ensures c.in_ok-before.ensures
    (draft_more differ c.args.out.now.items c.push.new.self.items _ c.in_ok-push.ensures.items after before factors)

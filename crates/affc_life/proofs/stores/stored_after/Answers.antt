use Rattle.std.proofs.Common.{◌≡◌, ◌+◌, ◌≤◌, ℕ, length, arith, sym, subst, ◌∙◌}
use Rattle.std.proofs.lemmas.Result.{IfOk-weaker}
use Rattle.std.specs.List.{All}
use Rattle.affc_quast.specs.SeenLeaves.{leaf_seen}
use Rattle.affc_life.specs.Clashes.{named_posed, writer_posed}
use Rattle.affc_life.specs.Drafts.{instance_named}
use Rattle.affc_life.proofs.SeatedLemmas.{writer_few, loaded_made, named_narrow, named_forms, writer_forms, writes_are, placed_over, order_made}
use Rattle.affc_life.proofs.stores.stored_after.Goals as goal

few_more : (first n c l : ℕ) → first ≡ c → n ≡ l → c ≤ 410 → l ≤ 6 → first + n ≤ 1000
few_more first n c l e f h g = omega (arith, e, f, h, g)

pub coordinates-own-requires : goal.coordinates-own-requires
coordinates-own-requires c = writer_few c.args.nest.now c.args.reader.now (leaf_seen c.args.leaf.now) c.args.writer.now c.requires.seated

pub columns_in-columns-requires-clause-leaf : goal.columns_in-columns-requires-clause-leaf
columns_in-columns-requires-clause-leaf c = c.requires.seated.few

pub columns_in-columns-requires-clause-writer : goal.columns_in-columns-requires-clause-writer
columns_in-columns-requires-clause-writer c = writer_few c.args.nest.now c.args.reader.now (leaf_seen c.args.leaf.now) c.args.writer.now c.requires.seated

pub add_padded-requires : goal.add_padded-requires
add_padded-requires c =
    subst (λ k. All (λ f. length f.coefs ≤ k) c.as_slice.result.now) (sym c.columns_in-columns.ensures)
    (subst (All (λ f. length f.coefs ≤ c.args.leaf.now.columns + length c.args.writer.now.loops)) (sym c.as_slice.ensures)
    (named_narrow c.args.nest.now c.args.reader.now (leaf_seen c.args.leaf.now) c.args.writer.now c.requires.seated (instance_named c.args.named.now) c.requires.named))

pub columns_from-requires : goal.columns_from-requires
columns_from-requires c = few_more c.args.leaf.now.columns c.coordinates-own.result c.args.leaf.now.columns (length c.args.writer.now.loops) (λ i. c.args.leaf.now.columns) c.coordinates-own.ensures (c.requires.seated.few) (writer_few c.args.nest.now c.args.reader.now (leaf_seen c.args.leaf.now) c.args.writer.now c.requires.seated)

pub target_order-requires-clause-first : goal.target_order-requires-clause-first
target_order-requires-clause-first c =
    placed_over c.args.nest.now c.args.reader.now (leaf_seen c.args.leaf.now) c.args.writer.now c.columns_in-columns.result c.columns_in-columns.ensures c.args.named.now.part c.as_slice-2.result.now _
    (c.as_slice-2.ensures.value ∙ loaded_made c.args.nest.now c.args.reader.now (leaf_seen c.args.leaf.now) c.args.writer.now c.columns_in-columns.result c.as_slice.result.now c.args.named.now.forms c.new-names.result.items c.add_padded.new.out.items c.columns_in-columns.ensures c.new-names.ensures.items c.as_slice.ensures
    c.in_ok-add_padded.ensures)
    (named_forms c.args.nest.now c.args.reader.now (leaf_seen c.args.leaf.now) c.args.writer.now c.requires.seated (instance_named c.args.named.now) c.requires.named)

pub target_order-requires-clause-second : goal.target_order-requires-clause-second
target_order-requires-clause-second c =
    placed_over c.args.nest.now c.args.reader.now (leaf_seen c.args.leaf.now) c.args.writer.now c.columns_in-columns.result c.columns_in-columns.ensures c.args.writer.now.part c.as_slice-3.result.now _
    (c.as_slice-3.ensures.value ∙ writes_are c.args.nest.now c.args.reader.now (leaf_seen c.args.leaf.now) c.args.writer.now c.columns_in-columns.result c.columns_in-columns.ensures c.coordinates-own.result c.in_ok-stores.stores.items c.coordinates-own.ensures c.in_ok-stores.ensures.value)
    (writer_forms c.args.nest.now c.args.reader.now (leaf_seen c.args.leaf.now) c.args.writer.now c.requires.seated)

pub returns : goal.returns
returns c =
    IfOk-weaker c.target_order.result _ _
    (λ v e. order_made c.args.nest.now c.args.reader.now (leaf_seen c.args.leaf.now) c.args.writer.now c.columns_in-columns.result c.columns_in-columns.ensures c.args.schedule.now (named_posed c.args.nest.now c.args.reader.now (leaf_seen c.args.leaf.now) c.args.writer.now (instance_named c.args.named.now)) c.as_slice-2.result.now
    (writer_posed c.args.nest.now c.args.reader.now (leaf_seen c.args.leaf.now) c.args.writer.now) c.as_slice-3.result.now v.items
    (c.as_slice-2.ensures.value ∙ loaded_made c.args.nest.now c.args.reader.now (leaf_seen c.args.leaf.now) c.args.writer.now c.columns_in-columns.result c.as_slice.result.now c.args.named.now.forms c.new-names.result.items c.add_padded.new.out.items c.columns_in-columns.ensures c.new-names.ensures.items c.as_slice.ensures
    c.in_ok-add_padded.ensures)
    (c.as_slice-3.ensures.value ∙ writes_are c.args.nest.now c.args.reader.now (leaf_seen c.args.leaf.now) c.args.writer.now c.columns_in-columns.result c.columns_in-columns.ensures c.coordinates-own.result c.in_ok-stores.stores.items c.coordinates-own.ensures c.in_ok-stores.ensures.value)
    e)
    c.target_order.ensures

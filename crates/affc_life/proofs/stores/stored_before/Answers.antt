use Rattle.std.proofs.Common.{◌≡◌, ◌+◌, ◌≤◌, ℕ, length, arith, ◌∙◌}
use Rattle.std.proofs.lemmas.Result.{IfOk-weaker}
use Rattle.affc_quast.specs.SeenLeaves.{leaf_seen}
use Rattle.affc_life.specs.Clashes.{reader_posed, writer_posed}
use Rattle.affc_life.proofs.SeatedLemmas.{params_few, writer_few, reader_few, reader_forms, writer_forms, writes_are, reads_are, placed_over, order_made}
use Rattle.affc_life.proofs.stores.stored_before.Goals as goal

few_more : (first n c l : ℕ) → first ≡ c → n ≡ l → c ≤ 410 → l ≤ 6 → first + n ≤ 1000
few_more first n c l e f h g = omega (arith, e, f, h, g)

pub params_in-params-requires : goal.params_in-params-requires
params_in-params-requires c = params_few c.args.nest.now c.args.reader.now (leaf_seen c.args.leaf.now) c.args.writer.now c.requires.seated

pub coordinates-own-requires : goal.coordinates-own-requires
coordinates-own-requires c = writer_few c.args.nest.now c.args.reader.now (leaf_seen c.args.leaf.now) c.args.writer.now c.requires.seated

pub columns_in-columns-requires-clause-leaf : goal.columns_in-columns-requires-clause-leaf
columns_in-columns-requires-clause-leaf c = c.requires.seated.few

pub columns_in-columns-requires-clause-writer : goal.columns_in-columns-requires-clause-writer
columns_in-columns-requires-clause-writer c = writer_few c.args.nest.now c.args.reader.now (leaf_seen c.args.leaf.now) c.args.writer.now c.requires.seated

pub coordinates-requires : goal.coordinates-requires
coordinates-requires c = reader_few c.args.nest.now c.args.reader.now (leaf_seen c.args.leaf.now) c.args.writer.now c.requires.seated

few_first : (first n c l : ℕ) → first ≡ c → n ≡ l → c ≤ 4 → l ≤ 6 → first + n ≤ 1000
few_first first n c l e f h g = omega (arith, e, f, h, g)

pub columns_from-requires : goal.columns_from-requires
columns_from-requires c = few_more c.args.leaf.now.columns c.coordinates-own.result c.args.leaf.now.columns (length c.args.writer.now.loops) (λ i. c.args.leaf.now.columns) c.coordinates-own.ensures (c.requires.seated.few) (writer_few c.args.nest.now c.args.reader.now (leaf_seen c.args.leaf.now) c.args.writer.now c.requires.seated)

pub columns_from-requires-2 : goal.columns_from-requires-2
columns_from-requires-2 c =
    few_first c.params_in-params.result c.coordinates.result (length c.args.nest.now.params) (length c.args.reader.now.loops) c.params_in-params.ensures c.coordinates.ensures (params_few c.args.nest.now c.args.reader.now (leaf_seen c.args.leaf.now) c.args.writer.now c.requires.seated) (reader_few c.args.nest.now c.args.reader.now (leaf_seen c.args.leaf.now) c.args.writer.now c.requires.seated)

pub target_order-requires-clause-first : goal.target_order-requires-clause-first
target_order-requires-clause-first c =
    placed_over c.args.nest.now c.args.reader.now (leaf_seen c.args.leaf.now) c.args.writer.now c.columns_in-columns.result c.columns_in-columns.ensures c.args.writer.now.part c.as_slice.result.now _
    (c.as_slice.ensures.value ∙ writes_are c.args.nest.now c.args.reader.now (leaf_seen c.args.leaf.now) c.args.writer.now c.columns_in-columns.result c.columns_in-columns.ensures c.coordinates-own.result c.in_ok-stores.stores.items c.coordinates-own.ensures c.in_ok-stores.ensures.value)
    (writer_forms c.args.nest.now c.args.reader.now (leaf_seen c.args.leaf.now) c.args.writer.now c.requires.seated)

pub target_order-requires-clause-second : goal.target_order-requires-clause-second
target_order-requires-clause-second c =
    placed_over c.args.nest.now c.args.reader.now (leaf_seen c.args.leaf.now) c.args.writer.now c.columns_in-columns.result c.columns_in-columns.ensures c.args.reader.now.part c.as_slice-2.result.now _
    (c.as_slice-2.ensures.value ∙ reads_are c.args.nest.now c.args.reader.now (leaf_seen c.args.leaf.now) c.args.writer.now c.columns_in-columns.result c.columns_in-columns.ensures c.params_in-params.result c.coordinates.result c.in_ok-loads.loads.items c.params_in-params.ensures c.coordinates.ensures c.in_ok-loads.ensures.value)
    (reader_forms c.args.nest.now c.args.reader.now (leaf_seen c.args.leaf.now) c.args.writer.now c.requires.seated)

pub returns : goal.returns
returns c =
    IfOk-weaker c.target_order.result _ _
    (λ v e. order_made c.args.nest.now c.args.reader.now (leaf_seen c.args.leaf.now) c.args.writer.now c.columns_in-columns.result c.columns_in-columns.ensures c.args.schedule.now (writer_posed c.args.nest.now c.args.reader.now (leaf_seen c.args.leaf.now) c.args.writer.now) c.as_slice.result.now (reader_posed c.args.nest.now c.args.reader.now (leaf_seen c.args.leaf.now) c.args.writer.now) c.as_slice-2.result.now v.items
    (c.as_slice.ensures.value ∙ writes_are c.args.nest.now c.args.reader.now (leaf_seen c.args.leaf.now) c.args.writer.now c.columns_in-columns.result c.columns_in-columns.ensures c.coordinates-own.result c.in_ok-stores.stores.items c.coordinates-own.ensures c.in_ok-stores.ensures.value)
    (c.as_slice-2.ensures.value ∙ reads_are c.args.nest.now c.args.reader.now (leaf_seen c.args.leaf.now) c.args.writer.now c.columns_in-columns.result c.columns_in-columns.ensures c.params_in-params.result c.coordinates.result c.in_ok-loads.loads.items c.params_in-params.ensures c.coordinates.ensures c.in_ok-loads.ensures.value)
    e)
    c.target_order.ensures

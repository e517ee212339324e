use Rattle.std.proofs.Common.{map}
use Rattle.std.proofs.lemmas.Result.{IfOk-weaker}
use Rattle.affc_order.specs.Systems.{over, source_systems}
use Rattle.affc_latest.proofs.AmongLemmas.{all_orders}
use Rattle.affc_latest.proofs.BesideLemmas.{is_nest, counted_entry, its_store_is, few_dimensions, all_over, orders_again, orders_fit}
use Rattle.affc_latest.proofs.latest.last_store.Goals as goal

pub store_rows-requires-clause-nest : goal.store_rows-requires-clause-nest
store_rows-requires-clause-nest c = is_nest c.args.reading.now.nest.now c.requires.reading.nested

pub store_rows-requires-clause-from : goal.store_rows-requires-clause-from
store_rows-requires-clause-from c = its_store_is c.args.reading.now.nest.now c.args.reading.now.load.now.array.0 c.args.writer.now c.args.store.now c.requires.writes

pub store_rows-requires-clause-few : goal.store_rows-requires-clause-few
store_rows-requires-clause-few c = few_dimensions c.args.reading.now.nest.now c.requires.reading.nested c.args.writer.now c.args.store.now c.args.reading.now.load.now.array.0 c.requires.writes

pub source_before-requires-clause-nest : goal.source_before-requires-clause-nest
source_before-requires-clause-nest c = is_nest c.args.reading.now.nest.now c.requires.reading.nested

pub source_before-requires-clause-first : goal.source_before-requires-clause-first
source_before-requires-clause-first c = counted_entry c.args.reading.now.nest.now c.requires.reading.nested c.args.writer.now c.requires.writes.among

pub source_before-requires-clause-second : goal.source_before-requires-clause-second
source_before-requires-clause-second c = counted_entry c.args.reading.now.nest.now c.requires.reading.nested c.args.reading.now.reader.now c.requires.reading.touched.there

pub last_by-requires-clause-beside : goal.last_by-requires-clause-beside
last_by-requires-clause-beside c = record {
  reading = c.requires.reading;
  writes = c.requires.writes;
  rows = c.in_ok-pair.ensures.value;
  few = c.in_ok-pair.ensures.few;
  ranges_are = c.in_ok-ranges.ensures;
}

pub last_by-requires-clause-fit : goal.last_by-requires-clause-fit
last_by-requires-clause-fit c =
    let r = c.args.reading.now in
    orders_fit r.nest.now c.args.writer.now r.reader.now c.args.store.now r.load.now c.in_ok-pair.pair c.as_slice.result.now _ c.in_ok-pair.ensures.value c.as_slice.ensures.value c.in_ok-orders.ensures.fit

pub last_by-requires-clause-orders : goal.last_by-requires-clause-orders
last_by-requires-clause-orders c =
    let r = c.args.reading.now in
    all_over (over c.in_ok-pair.pair.columns) c.as_slice.result.now (source_systems r.nest.now c.args.writer.now.part r.reader.now.part)
    (orders_again r.nest.now c.args.writer.now r.reader.now c.args.store.now r.load.now c.in_ok-pair.pair c.as_slice.result.now _ c.in_ok-pair.ensures.value c.as_slice.ensures.value c.in_ok-orders.ensures.rows)

pub returns-clause-latest : goal.returns-clause-latest
returns-clause-latest c =
    let r = c.args.reading.now in
    IfOk-weaker c.last_by.result _ _
    (λ found latest. all_orders r.nest.now c.args.writer.now r.reader.now c.args.store.now r.load.now r.p.now r.iterators.now (map (over c.in_ok-pair.pair.columns) c.as_slice.result.now) found c.requires.writes
    (orders_again r.nest.now c.args.writer.now r.reader.now c.args.store.now r.load.now c.in_ok-pair.pair c.as_slice.result.now _ c.in_ok-pair.ensures.value c.as_slice.ensures.value c.in_ok-orders.ensures.rows) latest)
    c.last_by.ensures.latest

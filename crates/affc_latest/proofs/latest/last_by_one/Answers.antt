use Rattle.std.proofs.Common.{length, refl, ap}
use Rattle.std.proofs.lemmas.Result.{IfOk-weaker}
use Rattle.affc_latest.proofs.BesideLemmas.{ranges_long, ranges_room, ranges_reach, one_latest, one_writer}
use Rattle.affc_latest.proofs.latest.last_by_one.Goals as goal

pub last_in-requires-clause-columns : goal.last_in-requires-clause-columns
last_in-requires-clause-columns c =
    let b = c.args.beside.now in
    ranges_long b.nest.now b.writer.now b.reader.now b.store.now b.load.now b.p.now b.iterators.now b.pair.now b.ranges.now c.requires.beside c.args.order.now c.in_ok-system.system c.in_ok-system.ensures

pub last_in-requires-clause-reach : goal.last_in-requires-clause-reach
last_in-requires-clause-reach c =
    let b = c.args.beside.now in
    ranges_reach b.nest.now b.writer.now b.reader.now b.store.now b.load.now b.p.now b.iterators.now b.pair.now b.ranges.now c.requires.beside

pub last_in-requires-clause-room : goal.last_in-requires-clause-room
last_in-requires-clause-room c =
    let b = c.args.beside.now in
    ranges_room b.nest.now b.writer.now b.reader.now b.store.now b.load.now b.p.now b.iterators.now b.pair.now b.ranges.now c.requires.beside (length c.ranges-params.result.now) c.coordinates-own.result
    (ap length c.ranges-params.ensures.ranges) c.coordinates-own.ensures

pub returns-clause-latest : goal.returns-clause-latest
returns-clause-latest c =
    let b = c.args.beside.now in
    IfOk-weaker c.last_in.result _ _ (λ found last. one_latest b.nest.now b.writer.now b.reader.now b.store.now b.load.now b.p.now b.iterators.now b.pair.now b.ranges.now c.requires.beside c.args.order.now c.in_ok-system.system b.writer.now.part
    (length c.ranges-params.result.now) c.coordinates-own.result c.in_ok-system.ensures refl (ap length c.ranges-params.ensures.ranges) c.coordinates-own.ensures found last c.requires.order) c.last_in.ensures.last

pub returns-clause-writer : goal.returns-clause-writer
returns-clause-writer c =
    let b = c.args.beside.now in
    IfOk-weaker c.last_in.result _ _ (λ found last. one_writer b.nest.now b.writer.now b.reader.now b.store.now b.load.now b.p.now b.iterators.now b.pair.now b.ranges.now c.requires.beside c.args.order.now c.in_ok-system.system b.writer.now.part
    (length c.ranges-params.result.now) c.coordinates-own.result c.in_ok-system.ensures refl (ap length c.ranges-params.ensures.ranges) c.coordinates-own.ensures found last) c.last_in.ensures.last

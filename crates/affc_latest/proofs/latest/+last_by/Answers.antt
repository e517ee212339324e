use Rattle.std.proofs.Common.{◌∷◌, [], map, ap, subst, ◌∙◌, arith}
use Rattle.affc_domain.proofs.Lists.{length_map, first_and_rest}
use Rattle.affc_order.specs.Systems.{over}
use Rattle.affc_latest.specs.Stores.{IsLatestBy}
use Rattle.affc_latest.proofs.AmongLemmas.{none_by, order_joined}
use Rattle.affc_latest.proofs.LaterLemmas.{writers_numbered, either_writes}
use Rattle.affc_latest.proofs.latest.+last_by.Goals as goal

pub returns-in-empty-clause-latest : goal.returns-in-empty-clause-latest
returns-in-empty-clause-latest t c =
    let b = c.args.beside.now in
    none_by b.nest.now b.writer.now b.reader.now b.store.now b.load.now b.p.now b.iterators.now (map (over b.pair.now.columns) c.args.orders.now) (length_map (over b.pair.now.columns) c.args.orders.now ∙ omega arith)

pub later-requires-clause-first : goal.later-requires-clause-first
later-requires-clause-first t c = writers_numbered c.args.beside.now.nest.now c.args.beside.now.load.now.array.0 c.in_ok-here-in-len1-up.here c.in_ok-here-in-len1-up.ensures.writer

pub later-requires-clause-second : goal.later-requires-clause-second
later-requires-clause-second t c = writers_numbered c.args.beside.now.nest.now c.args.beside.now.load.now.array.0 c.in_ok-others-in-len1-up.others c.in_ok-others-in-len1-up.ensures.writer

pub returns-in_ok-latest-in-len1-up-clause-latest : goal.returns-in_ok-latest-in-len1-up-clause-latest
returns-in_ok-latest-in-len1-up-clause-latest t c =
    let b = c.args.beside.now in
    order_joined b.nest.now b.writer.now b.reader.now b.store.now b.load.now b.p.now b.iterators.now (over b.pair.now.columns c.order-item.result) _ (map (over b.pair.now.columns) c.args.orders.now) c.in_ok-here-in-len1-up.here c.in_ok-others-in-len1-up.others c.in_ok-latest-in-len1-up.latest
    (ap (map (over b.pair.now.columns)) (first_and_rest c.args.orders.now c.order-item.result c.in-len1-up.len_at_least c.order-item.is))
    (subst (λ rs. IsLatestBy b.nest.now b.writer.now b.reader.now b.store.now b.load.now b.p.now b.iterators.now (over b.pair.now.columns rs ∷ []) c.in_ok-here-in-len1-up.here) c.as_slice.ensures c.in_ok-here-in-len1-up.ensures.latest) c.in_ok-others-in-len1-up.ensures.latest c.in_ok-latest-in-len1-up.ensures.later

pub returns-in_ok-latest-in-len1-up-clause-writer : goal.returns-in_ok-latest-in-len1-up-clause-writer
returns-in_ok-latest-in-len1-up-clause-writer t c =
    either_writes c.args.beside.now.nest.now c.args.beside.now.load.now.array.0 c.in_ok-here-in-len1-up.here c.in_ok-others-in-len1-up.others c.in_ok-latest-in-len1-up.latest
    c.in_ok-here-in-len1-up.ensures.writer c.in_ok-others-in-len1-up.ensures.writer c.in_ok-latest-in-len1-up.ensures.either

use Rattle.std.proofs.Common.{arith}
use Rattle.affc_trace.specs.Law.{IsIn}
use Rattle.affc_latest.proofs.AmongLemmas.{none_among, parts_joined}
use Rattle.affc_latest.proofs.LaterLemmas.{writers_numbered, either_writes}
use Rattle.affc_latest.proofs.Lists.{each_first, each_second}
use Rattle.affc_latest.proofs.latest.+last_among.Goals as goal

pub last_among-requires : goal.last_among-requires
last_among-requires t c =
    let f = c.split_at.ensures.front_len in
    let l = c.in_default.len_at_least in (
      omega (arith, f, l),
      (c.requires.reading, each_first (λ v. IsIn v c.args.reading.now.nest.now.entries) c.args.entries.now c.split_at.result.0.now c.split_at.result.1.now c.split_at.ensures.by_index.0 c.requires.entries),
    )

pub last_among-requires-in_default : goal.last_among-requires-in_default
last_among-requires-in_default t c =
    let g = c.split_at.ensures.back_len in
    let l = c.in_default.len_at_least in (
      omega (arith, g, l),
      (c.requires.reading, each_second (λ v. IsIn v c.args.reading.now.nest.now.entries) c.args.entries.now c.split_at.result.0.now c.split_at.result.1.now c.split_at.ensures.by_index.0 c.requires.entries),
    )

pub returns-in-empty-clause-latest : goal.returns-in-empty-clause-latest
returns-in-empty-clause-latest t c =
    let r = c.args.reading.now in
    none_among r.nest.now r.reader.now r.load.now r.p.now r.iterators.now c.args.entries.now (omega arith)

pub later-requires-clause-first : goal.later-requires-clause-first
later-requires-clause-first t c = writers_numbered c.args.reading.now.nest.now c.args.reading.now.load.now.array.0 c.in_ok-here-in_default.here c.in_ok-here-in_default.ensures.writer

pub later-requires-clause-second : goal.later-requires-clause-second
later-requires-clause-second t c = writers_numbered c.args.reading.now.nest.now c.args.reading.now.load.now.array.0 c.in_ok-others-in_default.others c.in_ok-others-in_default.ensures.writer

pub returns-in_ok-latest-in_default-clause-latest : goal.returns-in_ok-latest-in_default-clause-latest
returns-in_ok-latest-in_default-clause-latest t c =
    let r = c.args.reading.now in
    parts_joined r.nest.now r.reader.now r.load.now r.p.now r.iterators.now c.args.entries.now c.split_at.result.0.now c.split_at.result.1.now
    c.in_ok-here-in_default.here c.in_ok-others-in_default.others c.in_ok-latest-in_default.latest c.split_at.ensures.by_index.0
    c.in_ok-here-in_default.ensures.latest c.in_ok-others-in_default.ensures.latest c.in_ok-latest-in_default.ensures.later

pub returns-in_ok-latest-in_default-clause-writer : goal.returns-in_ok-latest-in_default-clause-writer
returns-in_ok-latest-in_default-clause-writer t c =
    either_writes c.args.reading.now.nest.now c.args.reading.now.load.now.array.0 c.in_ok-here-in_default.here c.in_ok-others-in_default.others c.in_ok-latest-in_default.latest
    c.in_ok-here-in_default.ensures.writer c.in_ok-others-in_default.ensures.writer c.in_ok-latest-in_default.ensures.either

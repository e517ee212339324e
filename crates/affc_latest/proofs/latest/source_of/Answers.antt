use Rattle.std.proofs.lemmas.Result.{IfOk-weaker}
use Rattle.affc_sched.proofs.Lists.{all_there}
use Rattle.affc_latest.proofs.AmongLemmas.{among_all}
use Rattle.affc_latest.proofs.latest.source_of.Goals as goal

pub last_among-requires-clause-entries : goal.last_among-requires-clause-entries
last_among-requires-clause-entries c = all_there c.args.reading.now.nest.now c.as_slice-entries.result.now c.as_slice-entries.ensures

pub returns-clause-source : goal.returns-clause-source
returns-clause-source c =
    let r = c.args.reading.now in
    IfOk-weaker c.last_among.result _ _ (λ found latest. among_all r.nest.now r.reader.now r.load.now r.p.now r.iterators.now c.as_slice-entries.result.now found c.as_slice-entries.ensures latest) c.last_among.ensures.latest

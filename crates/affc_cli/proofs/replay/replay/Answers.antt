use Rattle.affc_cli.proofs.replay.replay.Goals as goal

pub returns-clause-err : goal.returns-clause-err
returns-clause-err c =
    let read = c.in_ok-program.ensures.ok in
    c.told.ensures c.args.source.now c.args.schedule.now c.args.certificate.now read.reads (c.in-Err.ensures.err c.args.source.now read.reads read.bare)

use Rattle.affc_cli.proofs.trees.trees.Goals as goal

pub told-requires-clause-says : goal.told-requires-clause-says
told-requires-clause-says c =
    let read = c.in_ok-program.ensures.ok in
    (c.args.source.now, c.in-Err.ensures.err c.args.source.now read.reads read.bare)

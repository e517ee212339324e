use Rattle.affc_cli.proofs.Ending.{replay_ends}
use Rattle.affc_cli.proofs.serve.run_replay.Goals as goal

pub returns : goal.returns
returns g c =
    let made = c.replayed-made.ensures in
    replay_ends c.args.source.now c.args.schedule.now c.args.certificate.now c.replay_file-name.result.now _ _ c.end.result c.replayed-made.result
    made.ok made.err made.reads c.replay_file-name.ensures made.keeps c.end.ensures.ends c.end.ensures.out_counts c.end.ensures.err_counts

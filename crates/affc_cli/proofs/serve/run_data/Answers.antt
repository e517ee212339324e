use Rattle.affc_cli.proofs.Ending.{run_ends}
use Rattle.affc_cli.proofs.serve.run_data.Goals as goal

pub returns : goal.returns
returns g c =
    let made = c.ran-made.ensures in
    run_ends c.args.source.now c.args.feed.now c.args.limit c.file_of-name.result.now _ _ c.end.result c.ran-made.result
    made.ok made.err made.reads c.file_of-name.ensures made.keeps c.end.ensures.ends c.end.ensures.out_counts c.end.ensures.err_counts

use Rattle.affc_cli.proofs.Ending.{flow_ends}
use Rattle.affc_cli.proofs.serve.run_flow.Goals as goal

pub returns : goal.returns
returns g c =
    let made = c.flowed-made.ensures in
    flow_ends c.args.source.now _ _ c.end.result c.flowed-made.result made.ok made.err made.reads made.keeps c.end.ensures.ends c.end.ensures.out_counts c.end.ensures.err_counts

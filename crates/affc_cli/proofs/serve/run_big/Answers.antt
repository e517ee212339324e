use Rattle.affc_cli.proofs.Ending.{big_ends}
use Rattle.affc_cli.proofs.serve.run_big.Goals as goal

pub returns : goal.returns
returns g c folder =
    big_ends c.args.stages.count folder _ _ _ _ c.end.result c.big-made.result c.big-made.ensures.ok c.big-made.ensures.no_report c.big-made.ensures.err
    c.end.ensures.ends c.end.ensures.out_counts c.end.ensures.err_counts

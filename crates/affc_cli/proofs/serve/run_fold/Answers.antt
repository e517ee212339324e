use Rattle.std.specs.Prelude.{option_map}
use Rattle.affc_cli.proofs.Ending.{fold_ends}
use Rattle.affc_cli.proofs.serve.run_fold.Goals as goal

pub returns : goal.returns
returns g c =
    let made = c.folded_alone-made.ensures in
    fold_ends c.args.source.now c.args.settings (option_map (λ s. s.now) c.args.file) _ _ _ c.end_with.result c.folded_alone-made.result made.ok made.err made.reads made.keeps
    c.end_with.ensures.keeps c.end_with.ensures.ends c.end_with.ensures.out_counts c.end_with.ensures.err_counts

use Rattle.std.specs.Prelude.{option_map}
use Rattle.affc_cli.proofs.Ending.{fold_by_ends}
use Rattle.affc_cli.proofs.serve.run_fold_by.Goals as goal

pub returns : goal.returns
returns g c =
    let made = c.folded_by-made.ensures in
    fold_by_ends c.args.source.now c.args.schedule.now c.args.settings (option_map (λ s. s.now) c.args.file) c.fold_file-name.result.now _ _ _ c.end_with.result c.folded_by-made.result
    made.ok made.err made.reads c.fold_file-name.ensures made.keeps
    c.end_with.ensures.keeps c.end_with.ensures.ends c.end_with.ensures.out_counts c.end_with.ensures.err_counts

use Rattle.affc_interp.specs.Arrays.{values_in}
use Rattle.affc_interp.specs.Begun.{stop_of}
use Rattle.affc_cli.specs.Run.{Runnable}
use Rattle.affc_cli.proofs.Executed.{runs_to, run_refused}
use Rattle.affc_cli.proofs.run.run_text.Goals as goal

pub returns-in-Err-clause-err : goal.returns-in-Err-clause-err
returns-in-Err-clause-err c =
    let of : Runnable c.args.source.now c.args.feed.now = record {
      tree = c.in_ok-program.program;
      reads = c.in_ok-program.ensures.ok;
      p = c.in-Ok.given.params.items;
      values = values_in c.in-Ok.given.arrays.items;
      feeds = c.in-Ok.ensures.0;
    } in
    run_refused c.args.source.now c.args.feed.now c.args.limit of (stop_of c.in-Err.fault) c.refusal_of.result c.in-Err.ensures
    (rw c.as_slice.ensures.value at c.refusal_of.ensures)

pub returns-in-Ok-lines-clause-ok : goal.returns-in-Ok-lines-clause-ok
returns-in-Ok-lines-clause-ok c =
    let of : Runnable c.args.source.now c.args.feed.now = record {
      tree = c.in_ok-program.program;
      reads = c.in_ok-program.ensures.ok;
      p = c.in-Ok.given.params.items;
      values = values_in c.in-Ok.given.arrays.items;
      feeds = c.in-Ok.ensures.0;
    } in
    runs_to c.args.source.now c.args.feed.now c.args.limit c.in-Ok-lines.text.items of c.in-Ok-run.store c.in-Ok-run.ensures.0 c.in-Ok-run.ensures.1 c.in-Ok-lines.ensures

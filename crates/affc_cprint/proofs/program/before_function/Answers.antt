use Rattle.affc_cprint.specs.Seen.{seen}
use Rattle.affc_cprint.proofs.Writes.{◌next◌, ends}
use Rattle.affc_cprint.proofs.Programs.{before_pieces}
use Rattle.affc_cprint.proofs.program.before_function.Goals as goal

pub returns : goal.returns
returns c =
    ends c.prelude_lines.result _ _ _ (c.in_ok-push.ensures next c.in_ok-ranges.ensures next c.in_ok-context.ensures) c.prelude_lines.ensures
    (before_pieces c.args.program.now (seen c.in_ok-names.names) c.as_slice.result.now c.as_slice-2.result.now c.as_slice-3.result.now c.as_slice.ensures c.in_ok-names.ensures c.as_slice-2.ensures c.as_slice-3.ensures)

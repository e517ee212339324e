use Rattle.std.proofs.Common.{◌≤◌, length, rules}
use Rattle.affc_cprint.specs.Seen.{seen}
use Rattle.affc_cprint.proofs.Writes.{◌next◌, ends}
use Rattle.affc_cprint.proofs.Programs.{array_pieces}
use Rattle.affc_cprint.proofs.program.array_param.Goals as goal

pub returns : goal.returns
returns c =
    let some : 1 ≤ length c.as_slice-2.result.now = search rules in
    ends c.dims.result _ _ _ (c.in_ok-constant.ensures next c.in_ok-push.ensures next c.in_ok-push-2.ensures) c.dims.ensures
    (array_pieces c.args.prelude (seen c.args.names.now) c.args.d.now c.as_str.result.now c.as_slice-2.result.now c.as_str.ensures c.as_slice-2.ensures some)

use Rattle.affc_cprint.specs.Seen.{seen}
use Rattle.affc_cprint.proofs.Writes.{◌next◌, ends}
use Rattle.affc_cprint.proofs.Programs.{decl_pieces}
use Rattle.affc_cprint.proofs.program.decl.Goals as goal

pub returns : goal.returns
returns c =
    ends c.push-3.result _ _ _ (c.in_ok-push.ensures next c.in_ok-push-2.ensures next c.in_ok-dims.ensures) c.push-3.ensures
    (decl_pieces c.args.prelude (seen c.args.names.now) c.args.d.now c.as_str.result.now c.as_slice.result.now c.as_str.ensures c.as_slice.ensures)

use Rattle.std.proofs.Common.{◌≡◌, rules, true}
use Rattle.affc_cprint.specs.Seen.{seen}
use Rattle.affc_cprint.proofs.Writes.{◌next◌, ends}
use Rattle.affc_cprint.proofs.Arms.{local_pieces}
use Rattle.affc_cprint.proofs.stmt.local.Goals as goal

pub returns : goal.returns
returns c =
    let on : c.args.prelude ≡ true = search rules in
    ends c.push-4.result _ _ _ (c.in_ok-indent.ensures next c.in_ok-push.ensures next c.in_ok-push-2.ensures next c.in_ok-push-3.ensures next c.in_ok-ix.ensures) c.push-4.ensures
    (local_pieces c.args.prelude c.args.level (seen c.args.names.now) c.args.l.now c.as_str.result.now on c.as_str.ensures)

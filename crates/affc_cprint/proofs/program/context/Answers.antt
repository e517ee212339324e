use Rattle.std.proofs.Common.{◌≤◌, length, rules}
use Rattle.affc_cprint.specs.Seen.{seen}
use Rattle.affc_cprint.proofs.Writes.{◌next◌, ends}
use Rattle.affc_cprint.proofs.Programs.{context_pieces}
use Rattle.affc_cprint.proofs.program.context.Goals as goal

pub returns : goal.returns
returns c =
    let some : 1 ≤ length c.args.context.now = search rules in
    ends c.push-2.result _ _ _ (c.in_ok-push.ensures next c.in_ok-tests.ensures) c.push-2.ensures (context_pieces (seen c.args.names.now) c.args.context.now some)

use Rattle.affc_cprint.specs.Seen.{seen}
use Rattle.affc_cprint.proofs.Writes.{◌next◌, ends}
use Rattle.affc_cprint.proofs.Chains.{head_pieces}
use Rattle.affc_cprint.proofs.stmt.head.Goals as goal

pub returns : goal.returns
returns c =
    ends c.push-8.result _ _ _ (c.in_ok-push.ensures next c.in_ok-push-2.ensures next c.in_ok-push-3.ensures next c.in_ok-ix.ensures next c.in_ok-push-4.ensures next c.in_ok-push-5.ensures next c.in_ok-bound.ensures next c.in_ok-ix-2.ensures next c.in_ok-push-6.ensures next c.in_ok-push-7.ensures) c.push-8.ensures
    (head_pieces c.args.prelude (seen c.args.names.now) c.args.i.now c.args.low.now c.args.rel c.args.high.now)

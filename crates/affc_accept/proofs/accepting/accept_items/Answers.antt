use Rattle.std.proofs.Common.{sym, subst}
use Rattle.affc_accept.specs.Refusals.{AcceptRefuses}
use Rattle.affc_accept.proofs.Refused.{items_refused}
use Rattle.affc_accept.proofs.accepting.accept_items.Goals as goal

pub returns-in-Err-clause-err : goal.returns-in-Err-clause-err
returns-in-Err-clause-err c text read =
    subst (AcceptRefuses c.args.nest.now c.args.plan.now text) (sym c.of_items.ensures)
    (items_refused c.args.nest.now c.args.plan.now text c.args.cert.now read c.requires.bases c.in-Err.fault c.in-Err.ensures.number c.in-Err.ensures.proof c.in-Err.ensures.shown)

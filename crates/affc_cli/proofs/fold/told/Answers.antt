use Rattle.std.proofs.Common.{sym, subst}
use Rattle.affc_driver.specs.Refusals.{HasUnwritten, RefusalSays}
use Rattle.affc_cli.proofs.Causes.{meant_fold}
use Rattle.affc_cli.proofs.fold.told.Goals as goal

pub returns-in-Unwritten : goal.returns-in-Unwritten
returns-in-Unwritten c source schedule reads says short =
    let found = c.in-Unwritten in
    meant_fold source schedule c.args.settings c.unwritten.result
    (c.unwritten.ensures source schedule reads (found.array.0, subst (λ p. HasUnwritten source schedule found.array.0 found.access p found.instance) (sym c.as_slice.ensures) (subst (λ r. RefusalSays source schedule r) found.is says)))

use Rattle.std.proofs.Common.{sym, subst}
use Rattle.std.specs.Prelude.{None}
use Rattle.affc_driver.specs.Refusals.{HasUnwritten, FlowRefusalSays}
use Rattle.affc_cli.proofs.Causes.{meant_flow}
use Rattle.affc_cli.proofs.trees.told.Goals as goal

pub returns-in-Unwritten : goal.returns-in-Unwritten
returns-in-Unwritten c source reads says =
    let found = c.in-Unwritten in
    meant_flow source c.unwritten.result
    (c.unwritten.ensures source None reads (found.array.0, subst (λ p. HasUnwritten source None found.array.0 found.access p found.instance) (sym c.as_slice.ensures) (subst (λ r. FlowRefusalSays source r) found.is says)))

use Rattle.std.proofs.Common.{sym, subst, List, ℕ}
use Rattle.affc_interp.specs.Scans.{SpacedTo}
use Rattle.affc_interp.proofs.DataLines.{spaced_push}
use Rattle.affc_interp.proofs.line.all_spaced.Goals as goal

pub loop-value-preserved : goal.loop-value-preserved
loop-value-preserved c =
    subst (λ (vs : List ℕ). SpacedTo c.args.text.now vs c.in-Some.behind.now) (sym c.in_ok-push.ensures.items)
    (spaced_push c.args.text.now c.loop-value.values.items c.loop-value.rest.now c.in-Some.behind.now c.in-Some.value c.loop-value.invariant c.in-Some.ensures.value)

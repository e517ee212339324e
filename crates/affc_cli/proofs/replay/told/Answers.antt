use Rattle.std.proofs.Common.{Some, subst}
use Rattle.affc_replay.specs.Refusals.{ReplayRefuses}
use Rattle.affc_cli.proofs.Causes.{meant_replay}
use Rattle.affc_cli.proofs.replay.told.Goals as goal

pub returns-in-IteratorRange : goal.returns-in-IteratorRange
returns-in-IteratorRange c source schedule certificate reads says =
    let wide = subst (ReplayRefuses source schedule certificate) c.in-IteratorRange.is says in
    meant_replay source schedule certificate c.ranged.result (c.ranged.ensures source (Some schedule) reads wide.0) wide.1

use Rattle.std.proofs.Common.{sym, subst}
use Rattle.affc_replay.specs.Refusals.{ReplayRefuses}
use Rattle.affc_replay.proofs.Refused.{text_refuses}
use Rattle.affc_replay.proofs.replaying.text_of.Goals as goal

pub returns-in-Err-clause-err : goal.returns-in-Err-clause-err
returns-in-Err-clause-err c schedule planned text reads bare =
    let r = c.args.replaying.now in
    subst (ReplayRefuses text schedule r.certificate.now) (sym c.refused.ensures)
    (text_refuses r.program.now r.nest.now r.plan.now schedule r.certificate.now c.in-Err.fault c.in-Err.ensures.of_text c.requires.nest c.in-Err.ensures.err planned text reads bare)

use Rattle.std.proofs.Common.{refl, sym, subst}
use Rattle.affc_replay.specs.Refusals.{ReplayRefuses}
use Rattle.affc_replay.proofs.Decided.{asked}
use Rattle.affc_replay.proofs.Refused.{items_refuse}
use Rattle.affc_replay.proofs.replaying.accepted.Goals as goal

pub accept_items-requires-clause-asked : goal.accept_items-requires-clause-asked
accept_items-requires-clause-asked c =
    let r = c.args.replaying.now in
    let is = c.requires.replaying in
    asked r.program.now r.nest.now r.plan.now.schedule is.plain is.arrays is.near is.is is.fits is.slight

pub returns-in-Ok-clause-ok : goal.returns-in-Ok-clause-ok
returns-in-Ok-clause-ok c = record { cert = c.args.cert.now; read = c.requires.read; bases = c.requires.bases; checked = c.in-Ok.checked; is_checked = c.in-Ok.ensures.ok; are = refl }

pub returns-in-Err-clause-err : goal.returns-in-Err-clause-err
returns-in-Err-clause-err c schedule planned text reads bare =
    let r = c.args.replaying.now in
    subst (ReplayRefuses text schedule r.certificate.now) (sym c.refused.ensures)
    (items_refuse r.program.now r.nest.now r.plan.now schedule r.certificate.now c.in-Err.fault c.requires.replaying.near c.requires.replaying.is (c.in-Err.ensures.err r.certificate.now c.requires.read) planned text reads bare)

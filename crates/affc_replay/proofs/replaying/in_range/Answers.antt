use Rattle.std.proofs.Common.{sym, ◌∙◌}
use Rattle.affc_replay.proofs.Refused.{too_wide}
use Rattle.affc_replay.proofs.replaying.in_range.Goals as goal

pub returns-in-Some-clause-err : goal.returns-in-Some-clause-err
returns-in-Some-clause-err c schedule planned text reads bare =
    let r = c.args.replaying.now in
    too_wide r.program.now r.nest.now r.plan.now schedule r.certificate.now c.args.cert.now c.in-Some.statement c.in-Some.loop_number (sym c.requires.wide ∙ c.in-Some.is) c.requires.nest c.requires.read c.requires.bases
    planned text reads bare

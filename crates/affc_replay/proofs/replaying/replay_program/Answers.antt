use Rattle.std.proofs.Common.{Some}
use Rattle.std.proofs.lemmas.Result.{err_from_is_err_and, IfOk-weaker, IfErr-weaker}
use Rattle.affc_plain.proofs.Programs.{reads_plain}
use Rattle.affc_driver.proofs.Compiled.{plan_scheduled, plan_limited}
use Rattle.affc_driver.proofs.Ranked.{reads_naming_arrays}
use Rattle.affc_replay.proofs.Decided.{reads_temporaries, replays_to}
use Rattle.affc_replay.proofs.replaying.replay_program.Goals as goal

pub plan_of-requires-clause-plain : goal.plan_of-requires-clause-plain
plan_of-requires-clause-plain c = reads_plain c.requires.0 c.args.program.now c.requires.1.reads c.requires.1.bare

pub plan_of-requires-clause-counted : goal.plan_of-requires-clause-counted
plan_of-requires-clause-counted c = c.reads_counted.ensures.plain c.requires.0 c.args.program.now c.requires.1.reads

pub replay_by-requires-clause-plain : goal.replay_by-requires-clause-plain
replay_by-requires-clause-plain c = reads_plain c.requires.0 c.args.program.now c.requires.1.reads c.requires.1.bare

pub replay_by-requires-clause-arrays : goal.replay_by-requires-clause-arrays
replay_by-requires-clause-arrays c = reads_naming_arrays c.requires.0 c.args.program.now c.requires.1.reads

pub replay_by-requires-clause-temporaries : goal.replay_by-requires-clause-temporaries
replay_by-requires-clause-temporaries c = reads_temporaries c.requires.0 c.args.program.now c.requires.1.reads c.requires.1.bare

pub replay_by-requires-clause-fits : goal.replay_by-requires-clause-fits
replay_by-requires-clause-fits c = plan_scheduled c.args.program.now (Some c.args.schedule.now) c.in_ok-plan.plan c.in_ok-plan.ensures.planned

pub replay_by-requires-clause-slight : goal.replay_by-requires-clause-slight
replay_by-requires-clause-slight c = plan_limited c.args.program.now (Some c.args.schedule.now) c.in_ok-plan.plan c.in_ok-plan.ensures.planned

pub returns-clause-ok : goal.returns-clause-ok
returns-clause-ok c =
    IfOk-weaker c.replay_by.result _ _
    (λ r is. replays_to c.folds_well_named.ensures.law c.folds_compile.ensures.law c.args.program.now c.in_ok-plan.plan c.args.schedule.now c.args.certificate.now r.text.items r.report.items c.in_ok-plan.ensures.planned is)
    c.replay_by.ensures.ok

pub returns-clause-err : goal.returns-clause-err
returns-clause-err c = IfErr-weaker c.replay_by.result _ _ (λ refusal h. h c.args.schedule.now c.in_ok-plan.ensures.planned) c.replay_by.ensures.err

pub returns-in_err-plan-clause-err : goal.returns-in_err-plan-clause-err
returns-in_err-plan-clause-err c =
    let p = err_from_is_err_and c.from_residual.result c.from_residual.ensures.1 in
    rw (p.1, p.2) (c.in_err-plan.ensures.err c.args.certificate.now)

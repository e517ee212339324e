use Rattle.std.proofs.Common.{subst}
use Rattle.affc_legal.specs.Answered.{AreAnswered}
use Rattle.affc_sched.specs.Questions.{legality_questions}
use Rattle.affc_legal.proofs.SettlingLemmas.{settled_legal, settled_proofs, found_illegal}
use Rattle.affc_legal.proofs.legality.legal.Goals as goal

pub returns-in-None-clause-legal : goal.returns-in-None-clause-legal
returns-in-None-clause-legal c =
    settled_legal c.args.nest.now c.args.schedule.now c.new-proofs.result.items c.settle.new.out.items
    (subst (AreAnswered c.args.nest.now (legality_questions c.args.nest.now c.args.schedule.now) c.new-proofs.result.items c.settle.new.out.items) c.in-None.is c.in_ok-settle.ensures.answered)

pub returns-in-None-clause-proofs : goal.returns-in-None-clause-proofs
returns-in-None-clause-proofs c =
    settled_proofs (legality_questions c.args.nest.now c.args.schedule.now) c.new-proofs.result.items c.settle.new.out.items c.new-proofs.ensures.items
    (subst (AreAnswered c.args.nest.now (legality_questions c.args.nest.now c.args.schedule.now) c.new-proofs.result.items c.settle.new.out.items) c.in-None.is c.in_ok-settle.ensures.answered)

pub returns-in-Some-clause-illegal : goal.returns-in-Some-clause-illegal
returns-in-Some-clause-illegal c =
    found_illegal c.args.nest.now c.args.schedule.now c.in-Some.field-0
    (subst (AreAnswered c.args.nest.now (legality_questions c.args.nest.now c.args.schedule.now) c.new-proofs.result.items c.settle.new.out.items) c.in-Some.is c.in_ok-settle.ensures.answered)

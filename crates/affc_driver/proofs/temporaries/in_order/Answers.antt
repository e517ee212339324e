use Rattle.affc_driver.proofs.Refused.{asked, asked_for, turned}
use Rattle.affc_driver.proofs.temporaries.in_order.Goals as goal

pub legal-requires : goal.legal-requires
legal-requires c = record {
  asked = asked c.args.compiled.now.program.now c.args.compiled.now.nest.now c.args.compiled.now.plan.now c.requires.compiled;
}

pub returns-in-Ok-clause-legal : goal.returns-in-Ok-clause-legal
returns-in-Ok-clause-legal c =
    c.in-Ok.ensures.legal c.args.compiled.now.program.now
    (asked_for c.args.compiled.now.program.now c.args.compiled.now.nest.now c.args.compiled.now.plan.now c.requires.compiled)

pub returns-in-Err-Illegal-clause-err : goal.returns-in-Err-Illegal-clause-err
returns-in-Err-Illegal-clause-err c =
    turned c.args.compiled.now.program.now c.args.compiled.now.nest.now c.args.compiled.now.plan.now c.in-Err-Illegal.p c.in-Err-Illegal.a c.in-Err-Illegal.b c.requires.compiled c.requires.written
    (rw c.in-Err-Illegal.field-0-is at c.in-Err-Illegal.ensures.illegal)

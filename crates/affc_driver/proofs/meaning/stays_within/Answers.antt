use Rattle.affc_driver.proofs.Refused.{meant}
use Rattle.affc_driver.proofs.meaning.stays_within.Goals as goal

pub returns-in-Err-Meaning-clause-err : goal.returns-in-Err-Meaning-clause-err
returns-in-Err-Meaning-clause-err c = meant c.args.program.now c.in-Err-Meaning.fault (rw c.in-Err-Meaning.field-0-is at c.in-Err-Meaning.ensures.fault)

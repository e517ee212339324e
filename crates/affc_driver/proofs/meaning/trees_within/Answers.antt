use Rattle.affc_driver.proofs.Refused.{named_nest, unwritten}
use Rattle.affc_driver.proofs.meaning.trees_within.Goals as goal

pub find-requires : goal.find-requires
find-requires c = record { nested = named_nest c.args.program.now c.args.nest.now c.requires.plain c.requires.arrays c.requires.nest c.requires.within }

pub returns-in-Err-Unwritten-clause-err : goal.returns-in-Err-Unwritten-clause-err
returns-in-Err-Unwritten-clause-err c =
    unwritten c.args.program.now c.args.nest.now c.in-Err-Unwritten.array c.in-Err-Unwritten.access c.in-Err-Unwritten.p c.in-Err-Unwritten.instance c.requires.plain c.requires.arrays c.requires.nest c.requires.within
    (rw c.in-Err-Unwritten.field-0-is at c.in-Err-Unwritten.ensures.unwritten)

use Rattle.std.proofs.Common.{arith}
use Rattle.affc_compare.proofs.TimeLemmas.{slight_form}
use Rattle.affc_compare.proofs.time.compare.Goals as goal

pub component-requires-clause-slight : goal.component-requires-clause-slight
component-requires-clause-slight c = (slight_form c.args.first.now c.loop-i.i c.index-first-i.result c.requires.first_slight (omega arith) c.index-first-i.is).1

pub component-requires-clause-constant : goal.component-requires-clause-constant
component-requires-clause-constant c = (slight_form c.args.first.now c.loop-i.i c.index-first-i.result c.requires.first_slight (omega arith) c.index-first-i.is).0

pub component-requires-in-loop-i-clause-slight : goal.component-requires-in-loop-i-clause-slight
component-requires-in-loop-i-clause-slight c = (slight_form c.args.second.now c.loop-i.i c.index-second-i.result c.requires.second_slight (omega (arith, c.requires.one_each)) c.index-second-i.is).1

pub component-requires-in-loop-i-clause-constant : goal.component-requires-in-loop-i-clause-constant
component-requires-in-loop-i-clause-constant c = (slight_form c.args.second.now c.loop-i.i c.index-second-i.result c.requires.second_slight (omega (arith, c.requires.one_each)) c.index-second-i.is).0

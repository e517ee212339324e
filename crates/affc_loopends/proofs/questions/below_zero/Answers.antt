use Rattle.std.proofs.Common.{length}
use Rattle.affc_loopends.proofs.Asked.{below_is, printable_opposite, opposite_small}
use Rattle.affc_loopends.proofs.questions.below_zero.Goals as goal

pub opposite-requires : goal.opposite-requires
opposite-requires c = printable_opposite (length c.args.row.now.coefs) c.args.row.now c.requires

pub less-requires-clause-fits : goal.less-requires-clause-fits
less-requires-clause-fits c = opposite_small (length c.args.row.now.coefs) c.args.row.now c.in_ok-opposite.opposite c.requires c.in_ok-opposite.ensures

pub returns : goal.returns
returns c = below_is c.args.row.now c.in_ok-opposite.opposite c.less.result c.in_ok-opposite.ensures c.less.ensures

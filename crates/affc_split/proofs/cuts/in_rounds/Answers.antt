use Rattle.std.proofs.Common.{rules}
use Rattle.affc_split.specs.declared.search.Found.TheVariants.{Empty, Point}
use Rattle.affc_split.specs.Searches.{AreFewer}
use Rattle.affc_split.proofs.Spending.{known, failed_first}
use Rattle.affc_split.proofs.cuts.in_rounds.Goals as goal

pub returns-in_err-proof-clause-spends : goal.returns-in_err-proof-clause-spends
returns-in_err-proof-clause-spends c = failed_first (AreFewer 0) 0 _ c.args.budget.now c.from_residual.result (search rules)

pub returns-in-Empty-clause-spends : goal.returns-in-Empty-clause-spends
returns-in-Empty-clause-spends c = known _ c.args.budget.now (Empty c.in-Empty.proof)

pub returns-in-Point-clause-spends : goal.returns-in-Point-clause-spends
returns-in-Point-clause-spends c = known _ c.args.budget.now (Point c.in-Point.point)

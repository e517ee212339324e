use Rattle.std.proofs.Common.{rules}
use Rattle.affc_split.specs.Searches.{AreFewerFor}
use Rattle.affc_split.proofs.Spending.{answer_known, failed_first}
use Rattle.affc_split.proofs.decision.behind_corner.Goals as goal

pub returns-in_err-answer-clause-spends : goal.returns-in_err-answer-clause-spends
returns-in_err-answer-clause-spends c = failed_first AreFewerFor 0 _ c.args.budget.now c.from_residual.result (search rules)

pub returns-in-Some-clause-spends : goal.returns-in-Some-clause-spends
returns-in-Some-clause-spends c = answer_known c.args.ranges.now c.args.budget.now c.in-Some.answer

use Rattle.std.proofs.Common.{◌∙◌, sym, ap}
use Rattle.affc_bounds.specs.threshold.Thresholds.{threshold}
use Rattle.affc_driver.specs.Accounts.{reaches}
use Rattle.affc_driver.proofs.folding.is_plenty.Goals as goal

pub returns-in-Some : goal.returns-in-Some
returns-in-Some c = c.are_plenty.ensures ∙ ap (λ l. reaches l (threshold c.args.nest.now c.args.schedule.now)) (sym c.in-Some.is ∙ c.limit.ensures)

use Rattle.std.proofs.Common.{length}
use Rattle.affc_drafts.proofs.sampled.+least_slack.Given as goal

abbrev pub decreases-least_slack : goal.decreases-least_slack
decreases-least_slack l = length l.rows.now

use Rattle.affc_plan.proofs.RightDrafts as x
use Rattle.affc_plan.proofs.laws.kept_lines_are_right.Goals as goal

pub returns : goal.returns
returns c = x.right_drafts

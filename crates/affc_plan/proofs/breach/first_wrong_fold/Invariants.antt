use Rattle.std.proofs.Common.{◌≡◌, [], take, drop}
use Rattle.affc_plan.specs.Lines.{head, is_wrong_fold, wrong_from}
use Rattle.affc_plan.proofs.breach.first_wrong_fold.Given as goal

abbrev pub invariant-loop-i : goal.invariant-loop-i
invariant-loop-i l = head (wrong_from (is_wrong_fold l.outline) (take l.i l.folds) (drop l.i l.folds)) ≡ head (wrong_from (is_wrong_fold l.outline) [] l.folds)

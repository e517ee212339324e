use Rattle.std.proofs.Common.{◌≡◌, [], take, drop}
use Rattle.affc_plan.specs.Lines.{head, is_wrong_statement, wrong_from}
use Rattle.affc_plan.proofs.breach.first_wrong_statement.Given as goal

abbrev pub invariant-loop-i : goal.invariant-loop-i
invariant-loop-i l = head (wrong_from (is_wrong_statement l.outline) (take l.i l.lines) (drop l.i l.lines)) ≡ head (wrong_from (is_wrong_statement l.outline) [] l.lines)

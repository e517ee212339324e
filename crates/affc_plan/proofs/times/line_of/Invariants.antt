use Rattle.std.proofs.Common.{◌≡◌, true, drop}
use Rattle.std.specs.List.{list_any}
use Rattle.affc_plan.specs.Lines.{is_of_statement}
use Rattle.affc_plan.proofs.times.line_of.Given as goal

abbrev pub invariant-loop-i : goal.invariant-loop-i
invariant-loop-i l = list_any (is_of_statement l.outline l.statement) (drop l.i l.lines) ≡ true

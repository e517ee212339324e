use Rattle.std.proofs.Common.{◌≡◌, true, map}
use Rattle.affc_schedtext.specs.Rules.{has_all, statements_in}
use Rattle.affc_schedtext.specs.Seen.{line_seen}
use Rattle.affc_plan.proofs.breach.has_all.Given as goal

abbrev pub invariant-loop-number : goal.invariant-loop-number
invariant-loop-number l = has_all l.number (statements_in l.outline (map line_seen l.lines)) ≡ true

use Rattle.std.proofs.Common.{◌≡◌, drop}
use Rattle.affc_limits.specs.Terms.{has}
use Rattle.affc_limits.proofs.terms.position.Given as goal

abbrev pub invariant-loop-i : goal.invariant-loop-i
invariant-loop-i l = has l.name (drop l.i l.terms) ≡ has l.name l.terms

use Rattle.std.proofs.Common.{◌≡◌, length, ◌+ℤ◌, ◌*ℤ◌}
use Rattle.affc_grammar.specs.Grammar.{Name}
use Rattle.affc_limits.specs.Terms.{AreApart, coefficient}
use Rattle.affc_limits.proofs.TermLaws.{AreParted}
use Rattle.affc_limits.proofs.terms.all_times.Given as goal

abbrev pub invariant-loop-term : goal.invariant-loop-term
invariant-loop-term l = record {
  sums : (w : Name) → coefficient w l.made +ℤ (coefficient w l.terms *ℤ l.by) ≡ coefficient w l.fn.terms *ℤ l.by;
  apart : AreApart l.fn.terms → AreParted l.terms l.made;
}

abbrev pub decreases-loop-term : goal.decreases-loop-term
decreases-loop-term l = length l.terms

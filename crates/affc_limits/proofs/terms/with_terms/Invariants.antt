use Rattle.std.proofs.Common.{◌≡◌, length, ◌+ℤ◌}
use Rattle.affc_grammar.specs.Grammar.{Name}
use Rattle.affc_limits.specs.Terms.{AreApart, coefficient, scaled}
use Rattle.affc_limits.proofs.terms.with_terms.Given as goal

abbrev pub invariant-loop-term : goal.invariant-loop-term
invariant-loop-term l = record {
  sums : (w : Name) → coefficient w l.terms +ℤ scaled l.scale (coefficient w l.more) ≡ coefficient w l.fn.terms +ℤ scaled l.scale (coefficient w l.fn.more);
  apart : AreApart l.fn.terms → AreApart l.terms;
}

abbrev pub decreases-loop-term : goal.decreases-loop-term
decreases-loop-term l = length l.more

use Rattle.std.proofs.Common.{◌≡◌, drop}
use Rattle.affc_limits.specs.Terms.{any_large_by}
use Rattle.affc_limits.proofs.coefficients.any_large.Given as goal

abbrev pub invariant-loop-term : goal.invariant-loop-term
invariant-loop-term l = any_large_by l.size (drop l.term-index l.terms) ≡ any_large_by l.size l.terms

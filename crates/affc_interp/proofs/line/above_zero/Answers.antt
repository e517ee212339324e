use Rattle.std.proofs.Common.{subst}
use Rattle.std.specs.Prelude.{MatchOption}
use Rattle.affc_interp.specs.Scans.{IsNatural, NoNatural}
use Rattle.affc_interp.proofs.Numerals.{no_large_positive}
use Rattle.affc_interp.proofs.line.above_zero.Goals as goal

pub returns-in-None-positive : goal.returns-in-None-positive
returns-in-None-positive c text plain h = no_large_positive text c.in-Some.rest.now c.in-Some.magnitude plain (subst (λ o. MatchOption o (NoNatural text) (λ x. IsNatural text x.0 x.1.now)) c.in-Some.is h) c.in-None-positive.ensures

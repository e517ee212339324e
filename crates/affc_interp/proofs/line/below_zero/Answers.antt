use Rattle.std.proofs.Common.{subst}
use Rattle.std.specs.Prelude.{MatchOption}
use Rattle.affc_interp.specs.Scans.{IsNatural, NoNatural}
use Rattle.affc_interp.proofs.Numerals.{no_negative, no_large_negative}
use Rattle.affc_interp.proofs.line.below_zero.Goals as goal

pub returns-in-None-negative : goal.returns-in-None-negative
returns-in-None-negative c text h = no_large_negative text c.in-Some.rest.now c.in-Some.magnitude (subst (λ o. MatchOption o (NoNatural text) (λ x. IsNatural text x.0 x.1.now)) c.in-Some.is h) c.in-None-negative.ensures

pub returns-in-None : goal.returns-in-None
returns-in-None c text h = no_negative text (subst (λ o. MatchOption o (NoNatural text) (λ x. IsNatural text x.0 x.1.now)) c.in-None.is h)

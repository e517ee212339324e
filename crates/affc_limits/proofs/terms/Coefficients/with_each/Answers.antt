use Rattle.std.proofs.Common.{◌+ℤ◌, ap}
use Rattle.affc_limits.specs.Coefficients.{number_of}
use Rattle.affc_limits.proofs.PartLaws.{ok_are}
use Rattle.affc_limits.proofs.terms.Coefficients.with_each.Goals as goal

pub joined-requires : goal.joined-requires
joined-requires c = c.in_ok-own.ensures.apart

pub returns : goal.returns
returns c = ok_are c.joined.result _ _ c.joined.ensures (λ w. ap (λ z. z +ℤ number_of c.args.other w) (c.in_ok-own.ensures.same w))

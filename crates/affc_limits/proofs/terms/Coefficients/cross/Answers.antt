use Rattle.std.proofs.Common.{◌+ℤ◌}
use Rattle.affc_limits.proofs.PartLaws.{ok_are}
use Rattle.affc_limits.proofs.terms.Coefficients.cross.Goals as goal

pub returns : goal.returns
returns c = ok_are c.plus.result _ _ c.plus.ensures (λ w i. c.in_ok-own.ensures w i +ℤ c.in_ok-more.ensures w i)

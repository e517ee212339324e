use Rattle.std.proofs.Common.{◌+ℤ◌, ap, ◌∙◌}
use Rattle.affc_limits.specs.Coefficients.{number_of}
use Rattle.affc_limits.proofs.PartLaws.{minus_is, ok_are}
use Rattle.affc_limits.proofs.terms.Coefficients.minus.Goals as goal

pub returns : goal.returns
returns c =
    ok_are c.plus.result _ _ c.plus.ensures (λ w. ap (λ z. number_of c.args.self w +ℤ z) (c.in_ok-opposites.ensures w) ∙ minus_is (number_of c.args.self w) (number_of c.args.other w))

use Rattle.std.proofs.Common.{◌∙◌}
use Rattle.affc_limits.proofs.parts.quotient_form.Goals as goal

pub returns : goal.returns
returns c = λ k by_at by x f. record {
  has = record { first_is = c.opaque.ensures.first; constant_is = c.opaque.ensures.constant; coefficients_are = c.opaque.ensures.coefficients };
  past = c.opaque.ensures.past ∙ f.past;
}

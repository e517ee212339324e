use Rattle.std.proofs.Common.{◌≡◌}
use Rattle.std.proofs.lemmas.Result.{IfOk-at_ok}
use Rattle.affc_grammar.specs.Grammar.{Name}
use Rattle.affc_grammar.specs.Limits.{coefficient_of, constant_of}
use Rattle.affc_limits.specs.Coefficients.{number_of}
use Rattle.affc_limits.proofs.parts.form_from.Goals as goal

pub returns : goal.returns
returns c = λ e k n f p.
    c.form_of.ensures e
    (record {
      first_is = f;
      constant_is = IfOk-at_ok (λ z. z ≡ constant_of e) c.in_ok-constant.was k;
      coefficients_are = IfOk-at_ok (λ z. (w : Name) → number_of z w ≡ coefficient_of w e) c.in_ok-coefficients.was n;
    })
    p

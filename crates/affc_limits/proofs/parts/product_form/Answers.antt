use Rattle.std.proofs.Common.{◌+ℤ◌, ◌*ℤ◌, ap, ◌∙◌}
use Rattle.std.proofs.Math.IntN.{*ℤ_comm}
use Rattle.affc_limits.specs.Coefficients.{number_of}
use Rattle.affc_grammar.specs.Draft as d
use Rattle.affc_limits.proofs.PartLaws.{past_of_two, past-product, ok_are}
use Rattle.affc_limits.proofs.WholeLaws.{ok_is}
use Rattle.affc_limits.proofs.parts.product_form.Goals as goal

pub returns : goal.returns
returns c = λ at x y f g.
    let a = c.args.two.left in
    let b = c.args.two.right in
    c.form_from.ensures (d.product at x y)
    (ok_is c.times-constant.result _ _ c.times-constant.ensures (λ i. f.has.constant_is i *ℤ g.has.constant_is i))
    (ok_are c.cross-coefficients.result _ _ c.cross-coefficients.ensures (λ w.
    ap (λ z. (number_of a.coefficients w *ℤ b.constant) +ℤ z) (*ℤ_comm (number_of b.coefficients w) a.constant)
    ∙ (λ i. (f.has.coefficients_are w i *ℤ g.has.constant_is i) +ℤ (f.has.constant_is i *ℤ g.has.coefficients_are w i))))
    f.has.first_is
    (past_of_two (d.product at x y) x y a b c.lesser.result f g c.lesser.ensures ∙ past-product at x y)

use Rattle.std.proofs.Common.{◌+ℤ◌, ◌∙◌}
use Rattle.affc_grammar.specs.Draft as d
use Rattle.affc_limits.proofs.PartLaws.{past_of_two, past-sum, ok_are}
use Rattle.affc_limits.proofs.WholeLaws.{ok_is}
use Rattle.affc_limits.proofs.parts.sum_form.Goals as goal

pub returns : goal.returns
returns c = λ x y f g.
    c.form_from.ensures (d.sum x y)
    (ok_is c.plus.result _ _ c.plus.ensures (λ i. f.has.constant_is i +ℤ g.has.constant_is i))
    (ok_are c.plus-2.result _ _ c.plus-2.ensures (λ w i. f.has.coefficients_are w i +ℤ g.has.coefficients_are w i))
    f.has.first_is
    (past_of_two (d.sum x y) x y c.args.two.left c.args.two.right c.lesser.result f g c.lesser.ensures ∙ past-sum x y)

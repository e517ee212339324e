use Rattle.std.proofs.Common.{◌-ℤ◌, ◌∙◌}
use Rattle.affc_grammar.specs.Draft as d
use Rattle.affc_limits.proofs.PartLaws.{past_of_two, past-difference, ok_are}
use Rattle.affc_limits.proofs.WholeLaws.{ok_is}
use Rattle.affc_limits.proofs.parts.difference_form.Goals as goal

pub returns : goal.returns
returns c = λ x y f g.
    c.form_from.ensures (d.difference x y)
    (ok_is c.minus.result _ _ c.minus.ensures (λ i. f.has.constant_is i -ℤ g.has.constant_is i))
    (ok_are c.minus-2.result _ _ c.minus-2.ensures (λ w i. f.has.coefficients_are w i -ℤ g.has.coefficients_are w i))
    f.has.first_is
    (past_of_two (d.difference x y) x y c.args.two.left c.args.two.right c.lesser.result f g c.lesser.ensures ∙ past-difference x y)

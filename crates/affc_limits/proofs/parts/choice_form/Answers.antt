use Rattle.std.proofs.Common.{◌∙◌}
use Rattle.affc_limits.specs.Places.{lesser}
use Rattle.affc_limits.proofs.PartLaws.{past-chosen}
use Rattle.affc_limits.proofs.parts.choice_form.Goals as goal

pub returns : goal.returns
returns c = λ kind x y f g. record {
  has = record { first_is = c.opaque.ensures.first; constant_is = c.opaque.ensures.constant; coefficients_are = c.opaque.ensures.coefficients };
  past = c.opaque.ensures.past ∙ c.lesser.ensures ∙ (λ i. lesser (f.past i) (g.past i)) ∙ past-chosen c.args.at kind x y;
}

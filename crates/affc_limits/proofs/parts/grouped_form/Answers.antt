use Rattle.std.proofs.Common.{refl, ap, ◌∙◌}
use Rattle.affc_grammar.specs.Draft as d
use Rattle.affc_grammar.specs.Limits.{is_large}
use Rattle.affc_limits.specs.Places.{lesser, place_if}
use Rattle.affc_limits.proofs.PartLaws.{past-grouped}
use Rattle.affc_limits.proofs.parts.grouped_form.Goals as goal

pub returns : goal.returns
returns c = λ x f.
    c.form_of.ensures (d.grouped c.args.at x) (record { first_is = refl; constant_is = f.has.constant_is; coefficients_are = f.has.coefficients_are })
    (ap (lesser (place_if (is_large (d.grouped c.args.at x)) c.args.at)) f.past ∙ past-grouped c.args.at x)

use Rattle.std.proofs.Common.{refl}
use Rattle.affc_grammar.specs.Draft as d
use Rattle.affc_limits.proofs.PartLaws.{past-literal}
use Rattle.affc_limits.proofs.parts.literal_form.Goals as goal

pub returns : goal.returns
returns c = c.form_of.ensures (d.literal c.args.at c.args.value) (record { first_is = refl; constant_is = c.in_ok-constant.ensures; coefficients_are = c.none.ensures }) (past-literal c.args.at c.args.value)

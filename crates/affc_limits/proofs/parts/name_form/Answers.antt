use Rattle.std.proofs.Common.{refl}
use Rattle.affc_grammar.specs.Draft as d
use Rattle.affc_limits.proofs.PartLaws.{past-name}
use Rattle.affc_limits.proofs.parts.name_form.Goals as goal

pub returns : goal.returns
returns c = c.form_of.ensures (d.name c.args.at c.args.name.now) (record { first_is = refl; constant_is = c.zero.ensures; coefficients_are = c.in_ok-coefficients.ensures }) (past-name c.args.at c.args.name.now)

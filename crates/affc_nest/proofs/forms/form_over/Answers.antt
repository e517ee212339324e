use Rattle.std.proofs.Common.{◌+◌, sym, subst, ◌∙◌}
use Rattle.affc_nest.specs.Sides.{IsSide}
use Rattle.affc_nest.proofs.WidenLemmas.{no_operand, operand_form}
use Rattle.affc_nest.proofs.RowLemmas.{plain_side}
use Rattle.affc_nest.proofs.forms.form_over.Goals as goal

pub unreachable-requires : goal.unreachable-requires
unreachable-requires c = no_operand c.args.names c.args.e.now c.requires (sym c.in_default.is ∙ c.in_ok-part.ensures.form)

pub returns-clause-value : goal.returns-clause-value
returns-clause-value c = c.in_ok-form.ensures ∙ operand_form c.args.names c.args.more c.args.e.now c.in-Some.part c.requires (sym c.in-Some.is ∙ c.in_ok-part.ensures.form)

pub returns-clause-side : goal.returns-clause-side
returns-clause-side c =
    subst (λ f. IsSide (c.args.names + c.args.more) f)
    (sym (c.in_ok-form.ensures ∙ operand_form c.args.names c.args.more c.args.e.now c.in-Some.part c.requires (sym c.in-Some.is ∙ c.in_ok-part.ensures.form)))
    (plain_side c.args.names c.args.more c.args.e.now c.requires)

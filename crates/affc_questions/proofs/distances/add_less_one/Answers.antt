use Rattle.std.proofs.Common.{◌++◌, ap, ◌∙◌}
use Rattle.std.proofs.lemmas.Result.{on_ok_weaker}
use Rattle.affc_ast.specs.declared.tree.Rel.TheVariants.{Equal}
use Rattle.affc_nest.specs.Domains.{compare_rows}
use Rattle.affc_questions.proofs.distances.add_less_one.Goals as goal

pub returns : goal.returns
returns c = on_ok_weaker c.add_equal_rows.result (λ e. e ∙ ap (λ f. c.args.out.now ++ compare_rows Equal c.args.form.now f) c.in_ok-less.ensures.value) c.add_equal_rows.ensures

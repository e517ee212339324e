use Rattle.std.proofs.Common.{◌++◌, ◌∷◌, [], ap, ◌∙◌, w64}
use Rattle.std.proofs.lemmas.Int.{to_z-of_z}
use Rattle.std.proofs.lemmas.Result.{on_ok_weaker}
use Rattle.affc_nest.specs.Domains.{gap_row, number_form}
use Rattle.affc_questions.proofs.rows.add_at_most.Goals as goal

pub returns : goal.returns
returns c =
    on_ok_weaker c.add_gap_row.result
    (λ e. e ∙ ap (λ f. c.args.out.now ++ gap_row c.args.form.now f 0 ∷ []) (c.in_ok-high.ensures.value ∙ ap (number_form c.args.columns) (to_z-of_z w64 c.args.high c.ranges.high))) c.add_gap_row.ensures

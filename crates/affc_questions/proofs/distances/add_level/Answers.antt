use Rattle.std.proofs.Common.{◌≡◌, ◌++◌, pos, ap₂, ◌∙◌}
use Rattle.std.proofs.lemmas.Result.{on_ok_weaker}
use Rattle.affc_ast.specs.declared.tree.Rel.TheVariants.{Equal}
use Rattle.affc_nest.specs.Domains.{compare_rows, number_form}
use Rattle.affc_conflicts.specs.Questions.{distance}
use Rattle.affc_questions.proofs.distances.add_level.Goals as goal

pub returns : goal.returns
returns c =
    let pair = c.args.pair.now in
    let row = c.args.row.now in
    let apart : c.in_ok-apart.apart ≡ distance row pair.x.items pair.y.items = c.in_ok-apart.ensures.value ∙ ap₂ (λ xs ys. distance row xs ys) c.as_slice.ensures.value c.as_slice-2.ensures.value in
    on_ok_weaker c.add_zero.result (λ e. e ∙ ap₂ (λ f n. c.args.out.now ++ compare_rows Equal f (number_form n (pos 0))) apart c.columns-columns.ensures.value) c.add_zero.ensures

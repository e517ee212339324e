use Rattle.std.proofs.Common.{ℕ, List, ◌++◌, ◌∷◌, [], pos, negsuc, ap, ap₂, ◌∙◌}
use Rattle.std.proofs.lemmas.Result.{on_ok_weaker}
use Rattle.affc_rows.specs.Forms.{Affine, mixed_form}
use Rattle.affc_ast.specs.declared.tree.Rel.TheVariants.{Equal}
use Rattle.affc_nest.specs.Domains.{gap_row, compare_rows, number_form}
use Rattle.affc_conflicts.specs.Questions.{over_columns}
use Rattle.affc_nest.proofs.WideLemmas.{added_twice}
use Rattle.affc_questions.proofs.distances.add_shown.Goals as goal

pub returns : goal.returns
returns c =
    let b = c.args.modulus.now in
    let more : Affine → ℕ → List Affine = λ f n. compare_rows Equal f (mixed_form (pos 1) (over_columns n b) (negsuc 0) (number_form n (pos 1))) in
    let last : Affine → ℕ → List Affine = λ f n. gap_row (number_form n (pos 1)) f 0 ∷ [] in
    let k = c.columns-columns.result in
    let f = c.in_ok-apart.apart in
    on_ok_weaker c.add_at_least.result
    (λ e. e ∙ (ap (λ zs. zs ++ last f k) c.in_ok-add_less_one.ensures ∙ (added_twice c.args.out.now (more f k) (last f k) ∙ ap₂ (λ g n. c.args.out.now ++ (more g n ++ last g n)) c.in_ok-apart.ensures.value c.columns-columns.ensures.value))) c.add_at_least.ensures

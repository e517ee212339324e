use Rattle.std.proofs.Common.{◌≡◌, ◌∷◌, ◌++◌, [], negsuc, ap, ap₂, ◌∙◌}
use Rattle.std.proofs.lemmas.Result.{on_ok_weaker}
use Rattle.affc_rows.specs.Forms.{mixed_form}
use Rattle.affc_nest.specs.Domains.{gap_row}
use Rattle.affc_conflicts.specs.Questions.{distance, over_columns}
use Rattle.affc_questions.proofs.TurnedLemmas.{row_turned}
use Rattle.affc_questions.proofs.distances.add_distances.Goals as goal

pub returns-clause-first : goal.returns-clause-first
returns-clause-first c =
    let pair = c.args.pair.now in
    let row = c.args.row.now in
    let modulus = c.args.modulus.now in
    let apart : c.in_ok-apart.apart ≡ distance row pair.x.items pair.y.items = c.in_ok-apart.ensures.value ∙ ap₂ (λ xs ys. distance row xs ys) c.as_slice.ensures.value c.as_slice-2.ensures.value in
    let most : c.in_ok-most.most ≡ over_columns pair.system.columns modulus = c.in_ok-most.ensures.value ∙ ap (λ k. over_columns k modulus) c.columns-columns.ensures.value in
    on_ok_weaker c.add_both_ways.result (λ e. e ∙ ap₂ (λ m f. c.args.first.now ++ gap_row m f 0 ∷ []) most apart) c.add_both_ways.ensures.first

pub returns-clause-second : goal.returns-clause-second
returns-clause-second c =
    let pair = c.args.pair.now in
    let row = c.args.row.now in
    let modulus = c.args.modulus.now in
    let n = pair.system.columns in
    let apart : c.in_ok-apart.apart ≡ distance row pair.x.items pair.y.items = c.in_ok-apart.ensures.value ∙ ap₂ (λ xs ys. distance row xs ys) c.as_slice.ensures.value c.as_slice-2.ensures.value in
    let most : c.in_ok-most.most ≡ over_columns n modulus = c.in_ok-most.ensures.value ∙ ap (λ k. over_columns k modulus) c.columns-columns.ensures.value in
    on_ok_weaker c.add_both_ways.result
    (λ e. e ∙ ap (λ r. c.args.second.now ++ r ∷ []) (ap₂ (λ f g. mixed_form (negsuc 0) f (negsuc 0) g) apart most ∙ row_turned n row pair.x.items pair.y.items c.requires.straight c.requires.turned (over_columns n modulus))) c.add_both_ways.ensures.second

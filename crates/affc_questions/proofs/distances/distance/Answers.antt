use Rattle.std.proofs.Common.{◌≡◌, sym, subst}
use Rattle.std.proofs.lemmas.Result.{IfOk-weaker}
use Rattle.affc_rows.specs.Forms.{Affine}
use Rattle.affc_rows.specs.Vocabulary.{form_at}
use Rattle.affc_conflicts.specs.Questions.{distance}
use Rattle.affc_system.specs.Systems.{IsRow}
use Rattle.affc_nest.specs.Wide.{IsWide}
use Rattle.affc_questions.proofs.DistanceLemmas.{images_made, images_fit, row_fits, distance_made, distance_wide, distance_row}
use Rattle.affc_questions.proofs.distances.distance.Goals as goal

pub image_of-requires-clause-images : goal.image_of-requires-clause-images
image_of-requires-clause-images c =
    images_fit c.args.columns c.args.row.now c.args.xs.now c.args.ys.now c.requires c.as_slice.result.now
    (images_made c.args.columns c.args.row.now c.args.xs.now c.args.ys.now c.requires c.as_slice.result.now c.add_differences.new.out.items c.new-images.result.items c.as_slice.ensures.value c.in_ok-add_differences.ensures c.new-images.ensures.items)

pub image_of-requires-clause-row : goal.image_of-requires-clause-row
image_of-requires-clause-row c =
    row_fits c.args.columns c.args.row.now c.args.xs.now c.args.ys.now c.requires c.as_slice.result.now c.in_ok-row.row
    (images_made c.args.columns c.args.row.now c.args.xs.now c.args.ys.now c.requires c.as_slice.result.now c.add_differences.new.out.items c.new-images.result.items c.as_slice.ensures.value c.in_ok-add_differences.ensures c.new-images.ensures.items)
    c.in_ok-row.ensures

pub returns : goal.returns
returns c =
    let is : (f : Affine) → f ≡ form_at c.args.columns c.as_slice.result.now c.in_ok-row.row → f ≡ distance c.args.row.now c.args.xs.now c.args.ys.now =
    λ f e. distance_made c.args.columns c.args.row.now c.args.xs.now c.args.ys.now c.requires c.as_slice.result.now c.in_ok-row.row f
    (images_made c.args.columns c.args.row.now c.args.xs.now c.args.ys.now c.requires c.as_slice.result.now c.add_differences.new.out.items c.new-images.result.items c.as_slice.ensures.value c.in_ok-add_differences.ensures c.new-images.ensures.items)
    c.in_ok-row.ensures e in
    record {
      value = IfOk-weaker c.image_of.result _ _ is c.image_of.ensures;
      wide = IfOk-weaker c.image_of.result _ (IsWide c.args.columns) (λ f e. subst (IsWide c.args.columns) (sym (is f e)) (distance_wide c.args.columns c.args.row.now c.args.xs.now c.args.ys.now c.requires)) c.image_of.ensures;
      row = IfOk-weaker c.image_of.result _ (IsRow c.args.columns) (λ f e. subst (IsRow c.args.columns) (sym (is f e)) (distance_row c.args.columns c.args.row.now c.args.xs.now c.args.ys.now c.requires)) c.image_of.ensures;
    }

use Rattle.std.proofs.Common.{rules, ◌≤◌, ◌^◌, ◌+ℤ◌, IsTrue, length, FitsSigned, sym, ap, subst, ◌∙◌}
use Rattle.std.specs.Prelude.{unsigned_abs}
use Rattle.std.specs.Int.{w128}
use Rattle.std.proofs.lemmas.Int.{to_z-of_z}
use Rattle.affc_rows.specs.Forms.{Affine}
use Rattle.affc_trace.specs.Target.{are_slight}
use Rattle.affc_compare.proofs.TimeLemmas.{slight_take, slight_drop, total_fits, value_parts}
use Rattle.affc_compare.proofs.time.component.Goals as goal

pub products-requires-clause-slight : goal.products-requires-clause-slight
products-requires-clause-slight c =
    let coefs = c.as_slice.ensures ∙ ap (λ (f : Affine). f.coefs) c.form.view_is in
    let slight : IsTrue (are_slight c.as_slice.result.now) = subst (λ cs. IsTrue (are_slight cs)) (sym coefs) c.requires.slight in
    subst (λ cs. IsTrue (are_slight cs)) (sym c.split_at.ensures.front) (slight_take (length c.args.p.now) c.as_slice.result.now slight)

pub products-requires-2-clause-slight : goal.products-requires-2-clause-slight
products-requires-2-clause-slight c =
    let coefs = c.as_slice.ensures ∙ ap (λ (f : Affine). f.coefs) c.form.view_is in
    let slight : IsTrue (are_slight c.as_slice.result.now) = subst (λ cs. IsTrue (are_slight cs)) (sym coefs) c.requires.slight in
    subst (λ cs. IsTrue (are_slight cs)) (sym c.split_at.ensures.back) (slight_drop (length c.args.p.now) c.as_slice.result.now slight)

pub returns : goal.returns
returns c =
    let coefs = c.as_slice.ensures ∙ ap (λ (f : Affine). f.coefs) c.form.view_is in
    let constant = ap (λ (f : Affine). f.constant) c.form.view_is in
    let fo : FitsSigned w128 c.products.result = search rules in
    let fi : FitsSigned w128 c.products-2.result = search rules in
    let fk : FitsSigned w128 c.form.inside.constant = search rules in
    let small : unsigned_abs c.form.inside.constant ≤ 2 ^ 30 = subst (λ k. unsigned_abs k ≤ 2 ^ 30) (sym constant) c.requires.constant in
    let fits = total_fits c.products.result c.products-2.result c.form.inside.constant c.products.ensures.size c.products-2.ensures.size small in
    let inner_fits : FitsSigned w128 (c.products.result +ℤ c.products-2.result) = fits.0 in
    let whole_fits : FitsSigned w128 ((c.products.result +ℤ c.products-2.result) +ℤ c.form.inside.constant) = fits.1 in
    simp to_z-of_z (value_parts c.args.form.now c.as_slice.result.now c.split_at.result.0.now c.split_at.result.1.now c.args.p.now c.args.iterators.now c.products.result c.products-2.result c.form.inside.constant
    coefs constant c.split_at.ensures.front c.split_at.ensures.back c.products.ensures.value c.products-2.ensures.value)

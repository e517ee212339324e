use Rattle.std.proofs.Common.{◌∷◌, ◌++◌, [], map, flat_map, sym, ap, subst, ◌∙◌}
use Rattle.std.proofs.lemmas.Result.{on_ok_weaker, IfErr-weaker}
use Rattle.affc_products.specs.Products.{product}
use Rattle.affc_check.specs.list.Held.{listed_said}
use Rattle.affc_check.specs.list.Items.{Question}
use Rattle.affc_check.specs.list.Limits.{AnyPasses}
use Rattle.affc_check.specs.list.Listed.{AreListed}
use Rattle.affc_check.proofs.list.ProductLemmas.{distances_of_product}
use Rattle.affc_check.proofs.list.folds.add_distance.Goals as goal

pub returns-clause-ok : goal.returns-clause-ok
returns-clause-ok c =
    let p = c.args.product.now in
    let a = c.args.along.now in
    let ts = c.in_ok-tails.tails in
    let is = ap (λ n. product n c.rows-front.result.now (c.as_slice-factors.result.now ++ ts ∷ [])) c.columns.ensures.value
    ∙ ap (λ rows. product p.base.system.columns rows (c.as_slice-factors.result.now ++ ts ∷ [])) c.rows-front.ensures.rows
    ∙ ap (λ fs. product p.base.system.columns p.base.system.rows (fs ++ ts ∷ [])) c.as_slice-factors.ensures
    ∙ ap (λ t. product p.base.system.columns p.base.system.rows (p.factors ++ t ∷ [])) c.in_ok-tails.ensures
    ∙ sym (distances_of_product a.rows.now a.k a.row.now a.modulus.now p) in
    on_ok_weaker c.add_product.result (λ h. subst (λ qs. AreListed (flat_map listed_said c.args.out.now.items) (flat_map listed_said c.add_product.new.out.items) (map Question qs)) is h) c.add_product.ensures.ok

pub returns-clause-past : goal.returns-clause-past
returns-clause-past c =
    let p = c.args.product.now in
    let a = c.args.along.now in
    let ts = c.in_ok-tails.tails in
    let is = ap (λ n. product n c.rows-front.result.now (c.as_slice-factors.result.now ++ ts ∷ [])) c.columns.ensures.value
    ∙ ap (λ rows. product p.base.system.columns rows (c.as_slice-factors.result.now ++ ts ∷ [])) c.rows-front.ensures.rows
    ∙ ap (λ fs. product p.base.system.columns p.base.system.rows (fs ++ ts ∷ [])) c.as_slice-factors.ensures
    ∙ ap (λ t. product p.base.system.columns p.base.system.rows (p.factors ++ t ∷ [])) c.in_ok-tails.ensures
    ∙ sym (distances_of_product a.rows.now a.k a.row.now a.modulus.now p) in
    IfErr-weaker c.add_product.result _ _ (λ e h l. subst (λ qs. AnyPasses (map Question qs)) is (h l)) c.add_product.ensures.past

use Rattle.std.proofs.Common.{[], ◌∷◌, ◌++◌, map, flat_map, ap, ◌∙◌}
use Rattle.affc_products.specs.Products.{product}
use Rattle.affc_check.specs.list.Held.{listed_said}
use Rattle.affc_check.specs.list.Items.{Question}
use Rattle.affc_check.proofs.list.ProductLemmas.{past_passes, within_passes}
use Rattle.affc_check.proofs.list.listing.add_product.Goals as goal

pub returns-in_default-clause-past : goal.returns-in_default-clause-past
returns-in_default-clause-past c = λ e. past_passes (product c.args.columns c.args.front.now (c.args.factors.now ++ c.args.tails ∷ [])) c.in_default.ensures.past

pub returns-clause-ok : goal.returns-clause-ok
returns-clause-ok c =
    let old = flat_map listed_said c.args.out.now.items in
    record {
      put = c.in_ok-add_block.ensures ∙ ap (λ qs. old ++ map Question qs) c.in-Some.ensures.same;
      within = within_passes (product c.args.columns c.args.front.now (c.args.factors.now ++ c.args.tails ∷ [])) c.in-Some.ensures.within;
    }

use Rattle.std.proofs.Common.{◌≡◌, ◌++◌, ◌∷◌, [], rules, subst}
use Rattle.std.specs.List.{All}
use Rattle.affc_products.specs.Blocks.{product, AnyPast}
use Rattle.affc_products.specs.Parts.{IsWithin}
use Rattle.affc_life.proofs.KeptLemmas.{all_kept, none_past, one_past}
use Rattle.affc_life.proofs.products.keeps_limits.Goals as goal

pub returns-clause-fits : goal.returns-clause-fits
returns-clause-fits c =
    let d = c.args.draft.now in
    let tails : c.as_slice.result.now ≡ [] ∷ [] = search rules in
    λ t. none_past d c.as_slice.result.now tails
    (subst (λ fs. All IsWithin (product d.columns d.front.items (fs ++ c.as_slice.result.now ∷ []))) c.as_slice-factors.ensures
    (subst (λ front. All IsWithin (product d.columns front (c.as_slice-factors.result.now ++ c.as_slice.result.now ∷ []))) c.as_slice-front.ensures.value (c.product_fits.ensures.fits t)))

pub returns-clause-within : goal.returns-clause-within
returns-clause-within c =
    let d = c.args.draft.now in
    let tails : c.as_slice.result.now ≡ [] ∷ [] = search rules in
    λ t. all_kept d c.as_slice.result.now tails
    (subst (λ fs. All IsWithin (product d.columns d.front.items (fs ++ c.as_slice.result.now ∷ []))) c.as_slice-factors.ensures
    (subst (λ front. All IsWithin (product d.columns front (c.as_slice-factors.result.now ++ c.as_slice.result.now ∷ []))) c.as_slice-front.ensures.value (c.product_fits.ensures.fits t)))

pub returns-clause-past : goal.returns-clause-past
returns-clause-past c =
    let d = c.args.draft.now in
    let tails : c.as_slice.result.now ≡ [] ∷ [] = search rules in
    λ n. one_past d c.as_slice.result.now tails c.requires
    (subst (λ fs. AnyPast (product d.columns d.front.items (fs ++ c.as_slice.result.now ∷ []))) c.as_slice-factors.ensures
    (subst (λ front. AnyPast (product d.columns front (c.as_slice-factors.result.now ++ c.as_slice.result.now ∷ []))) c.as_slice-front.ensures.value (c.product_fits.ensures.past n)))

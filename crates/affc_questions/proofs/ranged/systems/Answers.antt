use Rattle.std.proofs.Common.{◌∷◌, ◌++◌, [], map, ap, ap₂, ◌∙◌}
use Rattle.affc_products.specs.Products.{product}
use Rattle.affc_products.proofs.ProductLemmas.{choices_without_last}
use Rattle.affc_questions.specs.Listed.{behind}
use Rattle.affc_questions.proofs.ranged.systems.Goals as goal

pub returns : goal.returns
returns c =
    let columns = c.args.group.now.columns in
    let front = c.as_slice-front.result.now in
    let factors = c.as_slice-factors.result.now in
    c.in_ok-made.ensures ∙ c.in-Some.ensures.same ∙ ap (λ t. product columns front (factors ++ t ∷ [])) c.in_ok-tails.ensures ∙ ap (map (behind columns front)) (choices_without_last factors)
    ∙ ap₂ (product columns) c.as_slice-front.ensures c.as_slice-factors.ensures

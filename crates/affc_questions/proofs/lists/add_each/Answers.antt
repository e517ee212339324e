use Rattle.std.proofs.Common.{◌≡◌, ◌∷◌, ◌++◌, [], flat_map, ap, ◌∙◌}
use Rattle.std.proofs.lemmas.Result.{on_ok_weaker}
use Rattle.affc_products.specs.Products.{choices}
use Rattle.affc_products.proofs.ProductLemmas.{choices_of_one}
use Rattle.affc_questions.specs.Listed.{asked}
use Rattle.affc_questions.proofs.ListedLemmas.{asked_as}
use Rattle.affc_questions.proofs.lists.add_each.Goals as goal

pub returns : goal.returns
returns c =
    let is : c.push.new.self ≡ c.args.lists.items ∷ [] = c.in_ok-push.ensures.ok ∙ ap (λ z. z ++ c.from_vec.result ∷ []) c.new-factors.ensures ∙ ap (λ z. z ∷ []) c.from_vec.ensures in
    on_ok_weaker c.add_group.result (λ e. e ∙ ap (λ qs. flat_map asked c.args.out.now.items ++ qs) (asked_as c.args.columns c.args.front c.args.behind c.push.new.self c.args.lists.items (ap choices is ∙ choices_of_one c.args.lists.items))) c.add_group.ensures

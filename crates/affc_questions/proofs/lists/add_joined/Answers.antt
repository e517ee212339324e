use Rattle.std.proofs.Common.{◌≡◌, ◌∷◌, ◌++◌, [], flat_map, ap, ◌∙◌}
use Rattle.std.proofs.lemmas.Result.{on_ok_weaker}
use Rattle.affc_products.specs.Products.{choices}
use Rattle.affc_products.proofs.ProductLemmas.{choices_of_two}
use Rattle.affc_questions.specs.Listed.{asked, joined}
use Rattle.affc_questions.proofs.ListedLemmas.{asked_as}
use Rattle.affc_questions.proofs.lists.add_joined.Goals as goal

pub returns : goal.returns
returns c =
    let first : c.push.new.self ≡ c.args.firsts.items ∷ [] = c.in_ok-push.ensures.ok ∙ ap (λ z. z ++ c.from_vec.result ∷ []) c.new-factors.ensures ∙ ap (λ z. z ∷ []) c.from_vec.ensures in
    let is : c.push-2.new.self ≡ c.args.firsts.items ∷ c.args.seconds.items ∷ [] = c.in_ok-push-2.ensures.ok ∙ ap (λ z. z ++ c.from_vec-2.result ∷ []) first ∙ ap (λ z. c.args.firsts.items ∷ z ∷ []) c.from_vec-2.ensures in
    on_ok_weaker c.add_group.result
    (λ e. e ∙ ap (λ qs. flat_map asked c.args.out.now.items ++ qs) (asked_as c.args.columns c.args.front c.args.behind c.push-2.new.self (joined c.args.firsts.items c.args.seconds.items) (ap choices is ∙ choices_of_two c.args.firsts.items c.args.seconds.items)))
    c.add_group.ensures

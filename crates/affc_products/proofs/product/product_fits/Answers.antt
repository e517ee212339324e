use Rattle.std.proofs.Common.{rules, IsTrue, ◌++◌, ◌∷◌, []}
use Rattle.affc_products.proofs.ChoiceLemmas.{none_within, kept_within, past_unkept}
use Rattle.affc_products.proofs.product.product_fits.Goals as goal

pub returns-then-not-has_choice-clause-fits : goal.returns-then-not-has_choice-clause-fits
returns-then-not-has_choice-clause-fits c =
    let n : ¬ (IsTrue c.has_choice.result) = search rules in
    λ t. none_within c.args.columns c.args.front.now (c.args.factors.now ++ c.args.tails.now ∷ []) (λ h. n (c.has_choice.ensures.1 h))

pub returns-clause-fits : goal.returns-clause-fits
returns-clause-fits c = λ t. kept_within c.args.columns c.args.front.now c.args.factors.now c.args.tails.now (c.keep.ensures.0 t)

pub returns-clause-past : goal.returns-clause-past
returns-clause-past c =
    let t : IsTrue c.has_choice.result = search rules in
    λ n. past_unkept c.args.columns c.args.front.now c.args.factors.now c.args.tails.now (c.has_choice.ensures.0 t) (λ k. n (c.keep.ensures.1 k))

use Rattle.std.proofs.Common.{[], ◌∷◌, ◌++◌, ℤ, ap, ◌∙◌}
use Rattle.affc_limits.proofs.terms.with_product.Goals as goal

pub returns : goal.returns
returns c = c.in_ok-push.ensures.ok ∙ ap (λ (z : ℤ). c.args.made ++ (record { name = c.args.term.name; number = z }) ∷ []) c.in_ok-number.ensures

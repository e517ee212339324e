use Rattle.std.proofs.Common.{◌≡◌, ℕ, ◌+◌, ◌-◌, length, map, sym, ap, subst, arith, ◌∙◌}
use Rattle.affc_products.specs.Blocks.{block_questions}
use Rattle.affc_check.specs.list.Held.{listed_said}
use Rattle.affc_check.specs.list.Items.{Question}
use Rattle.affc_check.specs.Steps.{Leaves}
use Rattle.affc_check.proofs.CheckLemmas.{proofs_taken}
use Rattle.affc_check.proofs.checks.count.Goals as goal

left : (p q r : ℕ) → p ≡ q + r → p - r ≡ q
left p q r e = omega (arith, e)

pub overflow_sub-result : goal.overflow_sub-result
overflow_sub-result c =
    let taken = proofs_taken (block_questions c.in-Questions.field-0) c.args.proofs.now c.args.rest.now (subst (λ l. Leaves (listed_said l) c.args.proofs.now c.args.rest.now) c.in-Questions.is c.requires) in
    omega (arith, taken)

pub returns-in-Questions : goal.returns-in-Questions
returns-in-Questions c =
    let qs = block_questions c.in-Questions.field-0 in
    let taken = proofs_taken qs c.args.proofs.now c.args.rest.now (subst (λ l. Leaves (listed_said l) c.args.proofs.now c.args.rest.now) c.in-Questions.is c.requires) in
    left (length c.args.proofs.now) (length (map Question qs)) (length c.args.rest.now) taken ∙ ap (λ l. length (listed_said l)) (sym c.in-Questions.is)

use Rattle.std.proofs.Common.{Ok, arith}
use Rattle.affc_syntax.specs.draft.Drafts.{ix, choice, rounding}
use Rattle.affc_limits.proofs.PartLaws.{of_negated, of_grouped, of_divided, of_sum, of_difference, of_product, of_chosen, fewer-Negated, fewer-Grouped, fewer-Divided, fewer-Sum, fewer-Difference, fewer-Product, fewer-Chosen}
use Rattle.affc_limits.proofs.parts.+formed.Goals as goal

pub formed-returns-in_ok-formed-in-Negated : goal.formed-returns-in_ok-formed-in-Negated
formed-returns-in_ok-formed-in-Negated t c =
    of_negated c.args.e.now c.in-Negated.at c.in-Negated.of c.get.result.now c.negation_form.result c.in-Negated.is c.get.ensures
    (c.negation_form.ensures (ix c.get.result.now) c.in_ok-formed-in-Negated.ensures)

pub formed-returns-in_ok-formed-in-Grouped : goal.formed-returns-in_ok-formed-in-Grouped
formed-returns-in_ok-formed-in-Grouped t c =
    of_grouped c.args.e.now c.in-Grouped.at c.in-Grouped.inside c.get-in-Grouped.result.now (Ok c.grouped_form.result) c.in-Grouped.is c.get-in-Grouped.ensures
    (c.grouped_form.ensures (ix c.get-in-Grouped.result.now) c.in_ok-formed-in-Grouped.ensures)

pub formed-returns-in_ok-formed-in-Divided : goal.formed-returns-in_ok-formed-in-Divided
formed-returns-in_ok-formed-in-Divided t c =
    of_divided c.args.e.now c.in-Divided.at c.in-Divided.rounding c.in-Divided.of c.in-Divided.by_at c.in-Divided.by c.get-in-Divided.result.now (Ok c.quotient_form.result) c.in-Divided.is c.get-in-Divided.ensures
    (c.quotient_form.ensures (rounding c.in-Divided.rounding) c.in-Divided.by_at c.in-Divided.by (ix c.get-in-Divided.result.now) c.in_ok-formed-in-Divided.ensures)

pub formed-returns-in_ok-both_formed-in-Sum : goal.formed-returns-in_ok-both_formed-in-Sum
formed-returns-in_ok-both_formed-in-Sum t c =
    of_sum c.args.e.now c.in-Sum.a c.in-Sum.b c.get-in-Sum.result.now c.get-in-Sum-2.result.now c.sum_form.result c.in-Sum.is c.get-in-Sum.ensures c.get-in-Sum-2.ensures
    (c.sum_form.ensures (ix c.get-in-Sum.result.now) (ix c.get-in-Sum-2.result.now) c.in_ok-both_formed-in-Sum.ensures.left c.in_ok-both_formed-in-Sum.ensures.right)

pub formed-returns-in_ok-both_formed-in-Difference : goal.formed-returns-in_ok-both_formed-in-Difference
formed-returns-in_ok-both_formed-in-Difference t c =
    of_difference c.args.e.now c.in-Difference.a c.in-Difference.b c.get-in-Difference.result.now c.get-in-Difference-2.result.now c.difference_form.result c.in-Difference.is c.get-in-Difference.ensures c.get-in-Difference-2.ensures
    (c.difference_form.ensures (ix c.get-in-Difference.result.now) (ix c.get-in-Difference-2.result.now) c.in_ok-both_formed-in-Difference.ensures.left c.in_ok-both_formed-in-Difference.ensures.right)

pub formed-returns-in_ok-both_formed-in-Product : goal.formed-returns-in_ok-both_formed-in-Product
formed-returns-in_ok-both_formed-in-Product t c =
    of_product c.args.e.now c.in-Product.at c.in-Product.left c.in-Product.right c.get-in-Product.result.now c.get-in-Product-2.result.now c.product_form.result c.in-Product.is c.get-in-Product.ensures c.get-in-Product-2.ensures
    (c.product_form.ensures c.in-Product.at (ix c.get-in-Product.result.now) (ix c.get-in-Product-2.result.now) c.in_ok-both_formed-in-Product.ensures.left c.in_ok-both_formed-in-Product.ensures.right)

pub formed-returns-in_ok-both_formed-in-Chosen : goal.formed-returns-in_ok-both_formed-in-Chosen
formed-returns-in_ok-both_formed-in-Chosen t c =
    of_chosen c.args.e.now c.in-Chosen.at c.in-Chosen.choice c.in-Chosen.left c.in-Chosen.right c.get-in-Chosen.result.now c.get-in-Chosen-2.result.now (Ok c.choice_form.result) c.in-Chosen.is c.get-in-Chosen.ensures c.get-in-Chosen-2.ensures
    (c.choice_form.ensures (choice c.in-Chosen.choice) (ix c.get-in-Chosen.result.now) (ix c.get-in-Chosen-2.result.now) c.in_ok-both_formed-in-Chosen.ensures.left c.in_ok-both_formed-in-Chosen.ensures.right)

pub formed-formed-requires : goal.formed-formed-requires
formed-formed-requires t c =
    let h = fewer-Negated c.args.e.now c.in-Negated.at c.in-Negated.of c.get.result.now c.in-Negated.is c.get.ensures in
    omega (arith, h)

pub formed-formed-requires-in-Grouped : goal.formed-formed-requires-in-Grouped
formed-formed-requires-in-Grouped t c =
    let h = fewer-Grouped c.args.e.now c.in-Grouped.at c.in-Grouped.inside c.get-in-Grouped.result.now c.in-Grouped.is c.get-in-Grouped.ensures in
    omega (arith, h)

pub formed-formed-requires-in-Divided : goal.formed-formed-requires-in-Divided
formed-formed-requires-in-Divided t c =
    let h = fewer-Divided c.args.e.now c.in-Divided.at c.in-Divided.rounding c.in-Divided.of c.in-Divided.by_at c.in-Divided.by c.get-in-Divided.result.now c.in-Divided.is c.get-in-Divided.ensures in
    omega (arith, h)

pub formed-both_formed-requires : goal.formed-both_formed-requires
formed-both_formed-requires t c =
    let h = fewer-Sum c.args.e.now c.in-Sum.a c.in-Sum.b c.get-in-Sum.result.now c.get-in-Sum-2.result.now c.in-Sum.is c.get-in-Sum.ensures c.get-in-Sum-2.ensures in
    omega (arith, h)

pub formed-both_formed-requires-in-Difference : goal.formed-both_formed-requires-in-Difference
formed-both_formed-requires-in-Difference t c =
    let h = fewer-Difference c.args.e.now c.in-Difference.a c.in-Difference.b c.get-in-Difference.result.now c.get-in-Difference-2.result.now c.in-Difference.is c.get-in-Difference.ensures c.get-in-Difference-2.ensures in
    omega (arith, h)

pub formed-both_formed-requires-in-Product : goal.formed-both_formed-requires-in-Product
formed-both_formed-requires-in-Product t c =
    let h = fewer-Product c.args.e.now c.in-Product.at c.in-Product.left c.in-Product.right c.get-in-Product.result.now c.get-in-Product-2.result.now c.in-Product.is c.get-in-Product.ensures c.get-in-Product-2.ensures in
    omega (arith, h)

pub formed-both_formed-requires-in-Chosen : goal.formed-both_formed-requires-in-Chosen
formed-both_formed-requires-in-Chosen t c =
    let h = fewer-Chosen c.args.e.now c.in-Chosen.at c.in-Chosen.choice c.in-Chosen.left c.in-Chosen.right c.get-in-Chosen.result.now c.get-in-Chosen-2.result.now c.in-Chosen.is c.get-in-Chosen.ensures c.get-in-Chosen-2.ensures in
    omega (arith, h)

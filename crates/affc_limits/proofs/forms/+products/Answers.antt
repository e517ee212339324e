use Rattle.std.proofs.Common.{◌∙◌, arith}
use Rattle.affc_limits.proofs.PlaceLaws.{sum_turn, sum_fewer, difference_turn, difference_fewer, product_turn, product_fewer, chosen_turn, chosen_fewer}
use Rattle.affc_limits.proofs.forms.+products.Goals as goal

pub loop-here-preserved-in-Sum : goal.loop-here-preserved-in-Sum
loop-here-preserved-in-Sum t c =
    let fewer = sum_fewer c.loop-here.here.now c.in-Sum.left c.in-Sum.right c.get-here-in-Sum.result.now c.in-Sum.is c.get-here-in-Sum.ensures in
    let is = sum_turn c.loop-here.here.now c.in-Sum.left c.in-Sum.right c.get-here-in-Sum.result.now c.get.result.now c.products.result c.loop-here.behind c.before_part-behind.result
    c.in-Sum.is c.get-here-in-Sum.ensures c.get.ensures c.products.ensures c.before_part-behind.ensures in
    (is ∙ c.loop-here.invariant.0, omega (arith, fewer, c.loop-here.invariant.1))

pub loop-here-preserved-in-Difference : goal.loop-here-preserved-in-Difference
loop-here-preserved-in-Difference t c =
    let fewer = difference_fewer c.loop-here.here.now c.in-Difference.left c.in-Difference.right c.get-here-in-Difference.result.now c.in-Difference.is c.get-here-in-Difference.ensures in
    let is = difference_turn c.loop-here.here.now c.in-Difference.left c.in-Difference.right c.get-here-in-Difference.result.now c.get-in-Difference.result.now c.products-in-Difference.result c.loop-here.behind c.before_part-behind-in-Difference.result
    c.in-Difference.is c.get-here-in-Difference.ensures c.get-in-Difference.ensures c.products-in-Difference.ensures c.before_part-behind-in-Difference.ensures in
    (is ∙ c.loop-here.invariant.0, omega (arith, fewer, c.loop-here.invariant.1))

pub loop-here-preserved-in-Product : goal.loop-here-preserved-in-Product
loop-here-preserved-in-Product t c =
    let fewer = product_fewer c.loop-here.here.now c.in-Product.left c.in-Product.right c.get-here-in-Product.result.now c.in-Product.at c.in-Product.is c.get-here-in-Product.ensures in
    let is = product_turn c.loop-here.here.now c.in-Product.left c.in-Product.right c.get-here-in-Product.result.now c.get-in-Product.result.now c.in-Product.at c.products-in-Product.result c.loop-here.behind c.before_side-behind.result
    c.in-Product.is c.get-here-in-Product.ensures c.get-in-Product.ensures c.products-in-Product.ensures c.before_side-behind.ensures in
    (is ∙ c.loop-here.invariant.0, omega (arith, fewer, c.loop-here.invariant.1))

pub loop-here-preserved-in-Chosen : goal.loop-here-preserved-in-Chosen
loop-here-preserved-in-Chosen t c =
    let fewer = chosen_fewer c.loop-here.here.now c.in-Chosen.left c.in-Chosen.right c.get-here-in-Chosen.result.now c.in-Chosen.at c.in-Chosen.choice c.in-Chosen.is c.get-here-in-Chosen.ensures in
    let is = chosen_turn c.loop-here.here.now c.in-Chosen.left c.in-Chosen.right c.get-here-in-Chosen.result.now c.get-in-Chosen.result.now c.in-Chosen.at c.in-Chosen.choice c.products-in-Chosen.result c.loop-here.behind c.before_part-behind-in-Chosen.result
    c.in-Chosen.is c.get-here-in-Chosen.ensures c.get-in-Chosen.ensures c.products-in-Chosen.ensures c.before_part-behind-in-Chosen.ensures in
    (is ∙ c.loop-here.invariant.0, omega (arith, fewer, c.loop-here.invariant.1))

use Rattle.std.proofs.Common.{rules, arith, ◌≡◌, ◌∙◌, ◌+ℤ◌, ap, length}
use Rattle.std.specs.Prelude.{FitsSigned}
use Rattle.std.specs.Int.{w128}
use Rattle.std.proofs.lemmas.Int.{to_z-of_z}
use Rattle.affc_leaf.specs.Bounds.{top}
use Rattle.affc_leaf.proofs.BoxCuts.{without_is}
use Rattle.affc_leaf.proofs.box_cuts.take_out.Goals as goal

pub returns-clause-value : goal.returns-clause-value
returns-clause-value c =
    let sum = c.args.sum.now in
    let part = c.args.part.now in
    let bounds = c.args.bounds.now in
    let greatest = c.top_products-greatest.result in
    let total = c.in_ok-total.total in
    let fk : FitsSigned w128 c.args.constant = c.ranges.constant in
    let fg : FitsSigned w128 greatest = search rules in
    let ft : FitsSigned w128 total = search rules in
    let w : length part ≡ length sum = omega (arith, c.if-part-bounds.false, c.if-sum-bounds.false) in
    let e = simp to_z-of_z at c.in_ok-total.ensures in
    let t : total ≡ c.args.constant +ℤ top part bounds = e.1 ∙ ap (λ z. c.args.constant +ℤ z) c.top_products-greatest.ensures.value in
    simp to_z-of_z (without_is sum part c.add_multiple.new.sum total c.args.constant bounds w c.if-not-add_multiple.ensures t)

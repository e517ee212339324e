use Rattle.std.proofs.Common.{rules, ◌+ℤ◌, ◌-ℤ◌, ◌∙◌, ap}
use Rattle.std.specs.Prelude.{FitsSigned}
use Rattle.std.specs.Int.{w128}
use Rattle.std.proofs.lemmas.Int.{to_z-of_z}
use Rattle.affc_leaf.proofs.Checked.{some_value}
use Rattle.affc_leaf.proofs.vertices.with_multiple.Goals as goal

pub returns : goal.returns
returns c =
    let fv : FitsSigned w128 c.args.value = c.ranges.value in
    let fk : FitsSigned w128 c.args.constant = c.ranges.constant in
    let ft : FitsSigned w128 c.args.times = c.ranges.times in
    let fp : FitsSigned w128 c.in_ok-products.products = search rules in
    let fm : FitsSigned w128 c.in_ok-multiple.multiple = search rules in
    let p = simp to_z-of_z at c.in_ok-products.ensures.1 in
    let m = simp to_z-of_z at c.in_ok-multiple.ensures.1 in
    let s = simp to_z-of_z at c.checked_add.ensures in
    some_value c.checked_add.result _ _ _ s (ap (λ z. z +ℤ c.in_ok-multiple.multiple) p ∙ ap (λ z. (c.args.value -ℤ c.args.constant) +ℤ z) m)

use Rattle.std.proofs.Common.{arith, rules, ◌+◌, ◌+ℤ◌, ◌∙◌, ap}
use Rattle.std.specs.Prelude.{unsigned_abs, FitsSigned}
use Rattle.std.specs.Int.{w128}
use Rattle.std.proofs.lemmas.Int.{to_z-of_z, unsigned_abs-mul, fits_signed_from_abs}
use Rattle.affc_rows.proofs.IntLemmas.{abs-add}
use Rattle.affc_rows.proofs.total.Total.add.Goals as goal

pub returns-clause-magnitude : goal.returns-clause-magnitude
returns-clause-magnitude c =
    let fc : FitsSigned w128 c.args.c = c.ranges.c in
    let fx : FitsSigned w128 c.args.x = c.ranges.x in
    let fp : FitsSigned w128 c.in-Some.product = search rules in
    let value = simp to_z-of_z at c.in-Some.ensures.value in
    let size = simp to_z-of_z at c.unsigned_abs-magnitude.ensures.value in
    ap (λ n. c.args.self.magnitude + n) (size ∙ ap (λ z. unsigned_abs z) value ∙ unsigned_abs-mul c.args.c c.args.x)

pub returns-clause-fits : goal.returns-clause-fits
returns-clause-fits c =
    let fc : FitsSigned w128 c.args.c = c.ranges.c in
    let fx : FitsSigned w128 c.args.x = c.ranges.x in
    let fp : FitsSigned w128 c.in-Some.product = search rules in
    let value = simp to_z-of_z at c.in-Some.ensures.value in
    let size = simp to_z-of_z at c.unsigned_abs-magnitude.ensures.value in
    let same = size ∙ ap (λ z. unsigned_abs z) value ∙ unsigned_abs-mul c.args.c c.args.x in
    omega (arith, same)

pub overflow_add-result : goal.overflow_add-result
overflow_add-result c =
    let fv : FitsSigned w128 c.args.self.value = fits_signed_from_abs w128 _ (omega (arith, c.args.self.within, c.args.self.limited)) in
    let fp : FitsSigned w128 c.in-Some.product = search rules in
    let size = simp to_z-of_z at c.unsigned_abs-magnitude.ensures.value in
    simp to_z-of_z (fits_signed_from_abs w128 _ (omega (arith, abs-add c.args.self.value c.in-Some.product, size, c.args.self.within, c.args.self.limited, c.if-magnitude-self.false)))

pub invariant_of-result-clause-within : goal.invariant_of-result-clause-within
invariant_of-result-clause-within c =
    let fv : FitsSigned w128 c.args.self.value = fits_signed_from_abs w128 _ (omega (arith, c.args.self.within, c.args.self.limited)) in
    let fp : FitsSigned w128 c.in-Some.product = search rules in
    let size = simp to_z-of_z at c.unsigned_abs-magnitude.ensures.value in
    let sum = abs-add c.args.self.value c.in-Some.product in
    let fs : FitsSigned w128 (c.args.self.value +ℤ c.in-Some.product) = fits_signed_from_abs w128 _ (omega (arith, sum, size, c.args.self.within, c.args.self.limited, c.if-magnitude-self.false)) in
    simp to_z-of_z (omega (arith, sum, size, c.args.self.within))

pub returns-clause-value : goal.returns-clause-value
returns-clause-value c =
    let fc : FitsSigned w128 c.args.c = c.ranges.c in
    let fx : FitsSigned w128 c.args.x = c.ranges.x in
    let fv : FitsSigned w128 c.args.self.value = fits_signed_from_abs w128 _ (omega (arith, c.args.self.within, c.args.self.limited)) in
    let fp : FitsSigned w128 c.in-Some.product = search rules in
    let value = simp to_z-of_z at c.in-Some.ensures.value in
    let size = simp to_z-of_z at c.unsigned_abs-magnitude.ensures.value in
    let fs : FitsSigned w128 (c.args.self.value +ℤ c.in-Some.product) = fits_signed_from_abs w128 _
    (omega (arith, abs-add c.args.self.value c.in-Some.product, size, c.args.self.within, c.args.self.limited, c.if-magnitude-self.false)) in
    simp to_z-of_z (ap (λ z. c.args.self.value +ℤ z) value)

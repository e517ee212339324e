use Rattle.std.proofs.Common.{rules, FitsSigned, w64, to_z-of_z}
use Rattle.affc_interp.proofs.Steps.{opposite_step, floor_step, ceiling_step, sum_step, difference_step, product_step, least_step, greatest_step, remainder_step}
use Rattle.affc_interp.proofs.step.last_step.Goals as goal

pub returns-in-Neg : goal.returns-in-Neg
returns-in-Neg c = opposite_step c.args.e.now c.in-Neg.a c.get.result.now c.in-Neg.is c.get.ensures

pub returns-in-Floord : goal.returns-in-Floord
returns-in-Floord c =
    let fits : FitsSigned w64 c.in-Floord.n = search rules in
    rw (to_z-of_z fits) (floor_step c.args.e.now c.in-Floord.a c.get-in-Floord.result.now c.in-Floord.n c.in-Floord.is c.get-in-Floord.ensures)

pub returns-in-Ceild : goal.returns-in-Ceild
returns-in-Ceild c =
    let fits : FitsSigned w64 c.in-Ceild.n = search rules in
    rw (to_z-of_z fits) (ceiling_step c.args.e.now c.in-Ceild.a c.get-in-Ceild.result.now c.in-Ceild.n c.in-Ceild.is c.get-in-Ceild.ensures)

pub returns-in-Add : goal.returns-in-Add
returns-in-Add c = sum_step c.args.e.now c.in-Add.a c.in-Add.b c.get-in-Add.result.now c.get-in-Add-2.result c.get-in-Add.ensures c.get-in-Add-2.ensures c.in-Add.is

pub returns-in-Sub : goal.returns-in-Sub
returns-in-Sub c = difference_step c.args.e.now c.in-Sub.a c.in-Sub.b c.get-in-Sub.result.now c.get-in-Sub-2.result c.get-in-Sub.ensures c.get-in-Sub-2.ensures c.in-Sub.is

pub returns-in-Mul : goal.returns-in-Mul
returns-in-Mul c = product_step c.args.e.now c.in-Mul.a c.in-Mul.b c.get-in-Mul.result.now c.get-in-Mul-2.result c.get-in-Mul.ensures c.get-in-Mul-2.ensures c.in-Mul.is

pub returns-in-Min : goal.returns-in-Min
returns-in-Min c = least_step c.args.e.now c.in-Min.a c.in-Min.b c.get-in-Min.result.now c.get-in-Min-2.result c.get-in-Min.ensures c.get-in-Min-2.ensures c.in-Min.is

pub returns-in-Max : goal.returns-in-Max
returns-in-Max c = greatest_step c.args.e.now c.in-Max.a c.in-Max.b c.get-in-Max.result.now c.get-in-Max-2.result c.get-in-Max.ensures c.get-in-Max-2.ensures c.in-Max.is

pub returns-in-Mod : goal.returns-in-Mod
returns-in-Mod c = remainder_step c.args.e.now c.in-Mod.a c.in-Mod.b c.get-in-Mod.result.now c.get-in-Mod-2.result c.get-in-Mod.ensures c.get-in-Mod-2.ensures c.in-Mod.is

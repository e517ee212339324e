use Rattle.std.proofs.Common.{◌≡◌, ◌+◌, ap, rules, true, nat_abs, to_z-of_z, arith}
use mir.Syntax.{w64}
use mir.Val.{SFits}
use Rattle.affc_ast.specs.Index.{index_step, nodes_of_ix}
use Rattle.affc_ast.specs.Recursion.{by_ix}
use Rattle.affc_grammar.specs.Grammar.{plus, minus, times, minimum, maximum, remainder, down, up}
use Rattle.affc_grammar.specs.Printed.{ix_step}
use Rattle.affc_cprint.specs.Seen.{seen}
use Rattle.affc_cprint.specs.Places.{divides, is_inside, is_factor, is_negated, negated_layout, sum_layout, product_layout}
use Rattle.affc_cprint.proofs.Writes.{◌next◌, ends, told}
use Rattle.affc_cprint.proofs.Nodes.{neg_is, add_is, sub_is, mul_is, min_is, max_is, mod_is, floord_is, ceild_is}
use Rattle.affc_cprint.proofs.Places.{pieces, called_pieces, quotient_pieces, negation_text, sum_text, product_text, chosen_text, divided_text}
use Rattle.affc_cprint.proofs.index.+ix.Goals as goal

pub opposite-returns : goal.opposite-returns
opposite-returns t c =
    ends c.close.result _ _ _ (c.in_ok-open.ensures next c.in_ok-push.ensures next c.in_ok-ix.ensures) c.close.ensures
    (pieces c.is_inside-wanted.result (is_inside c.args.place) (negated_layout (by_ix (ix_step c.args.prelude (seen c.args.names.now)) c.args.a.now)) c.is_inside-wanted.ensures)

pub sum-returns : goal.sum-returns
sum-returns t c =
    ends c.close.result _ _ _ (c.in_ok-open.ensures next c.in_ok-ix.ensures next c.in_ok-push.ensures next c.in_ok-ix-2.ensures) c.close.ensures
    (pieces c.is_inside-wanted.result (is_inside c.args.place) (sum_layout (by_ix (ix_step c.args.prelude (seen c.args.names.now)) c.args.a.now) c.args.mark.now (by_ix (ix_step c.args.prelude (seen c.args.names.now)) c.args.b.now)) c.is_inside-wanted.ensures)

pub product-returns : goal.product-returns
product-returns t c =
    ends c.close.result _ _ _ (c.in_ok-open.ensures next c.in_ok-ix.ensures next c.in_ok-push.ensures next c.in_ok-ix-2.ensures) c.close.ensures
    (pieces c.is_factor-wanted.result (is_factor c.args.place) (product_layout (by_ix (ix_step c.args.prelude (seen c.args.names.now)) c.args.a.now) (by_ix (ix_step c.args.prelude (seen c.args.names.now)) c.args.b.now)) c.is_factor-wanted.ensures)

pub call-returns : goal.call-returns
call-returns t c =
    let on : c.args.prelude ≡ true = search rules in
    ends c.close.result _ _ _ (c.in_ok-open.ensures next c.in_ok-push.ensures next c.in_ok-ix.ensures next c.in_ok-push-2.ensures next c.in_ok-ix-2.ensures next c.in_ok-push-3.ensures) c.close.ensures
    (called_pieces c.args.prelude c.is_negated-wanted.result (is_negated c.args.place) c.args.word.now (by_ix (ix_step c.args.prelude (seen c.args.names.now)) c.args.a.now) (by_ix (ix_step c.args.prelude (seen c.args.names.now)) c.args.b.now) on c.is_negated-wanted.ensures)

pub quotient-returns : goal.quotient-returns
quotient-returns t c =
    let on : divides c.args.prelude c.args.by ≡ true = search rules in
    let size : c.unsigned_abs.result ≡ nat_abs c.args.by = search rules in
    ends c.close.result _ _ _ (c.in_ok-open.ensures next c.in_ok-push.ensures next c.in_ok-ix.ensures next c.in_ok-push-2.ensures next c.in_ok-decimal.ensures next c.in_ok-push-3.ensures) c.close.ensures
    (quotient_pieces (divides c.args.prelude c.args.by) c.is_negated-wanted.result (is_negated c.args.place) c.args.word.now (by_ix (ix_step c.args.prelude (seen c.args.names.now)) c.args.a.now) c.args.by c.unsigned_abs.result on size c.is_negated-wanted.ensures)

pub ix-returns-in-Neg : goal.ix-returns-in-Neg
ix-returns-in-Neg t c =
    told c.opposite.result _ _ _ _ c.opposite.ensures
    (negation_text c.args.place (by_ix (ix_step c.args.prelude (seen c.args.names.now)) c.args.e.now) (by_ix (ix_step c.args.prelude (seen c.args.names.now)) c.get.result.now) (neg_is (ix_step c.args.prelude (seen c.args.names.now)) c.args.e.now c.in-Neg.a c.get.result.now c.in-Neg.is c.get.ensures))

pub ix-opposite-requires : goal.ix-opposite-requires
ix-opposite-requires t c =
    let n : nodes_of_ix c.args.e.now ≡ 1 + nodes_of_ix c.get.result.now = ap (λ i. i.nodes) (neg_is index_step c.args.e.now c.in-Neg.a c.get.result.now c.in-Neg.is c.get.ensures) in
    omega (arith, n)

pub ix-returns-in-Add : goal.ix-returns-in-Add
ix-returns-in-Add t c =
    told c.sum.result _ _ _ _ c.sum.ensures
    (sum_text c.args.place (by_ix (ix_step c.args.prelude (seen c.args.names.now)) c.args.e.now) (plus (by_ix (ix_step c.args.prelude (seen c.args.names.now)) c.get-in-Add.result.now).whole (by_ix (ix_step c.args.prelude (seen c.args.names.now)) c.get-in-Add-2.result.now).right_of_sum) (add_is (ix_step c.args.prelude (seen c.args.names.now)) c.args.e.now c.in-Add.a c.in-Add.b c.get-in-Add.result.now c.get-in-Add-2.result.now c.in-Add.is c.get-in-Add.ensures c.get-in-Add-2.ensures))

pub ix-sum-requires : goal.ix-sum-requires
ix-sum-requires t c =
    let n : nodes_of_ix c.args.e.now ≡ 1 + nodes_of_ix c.get-in-Add.result.now + nodes_of_ix c.get-in-Add-2.result.now = ap (λ i. i.nodes) (add_is index_step c.args.e.now c.in-Add.a c.in-Add.b c.get-in-Add.result.now c.get-in-Add-2.result.now c.in-Add.is c.get-in-Add.ensures c.get-in-Add-2.ensures) in
    omega (arith, n)

pub ix-returns-in-Sub : goal.ix-returns-in-Sub
ix-returns-in-Sub t c =
    told c.sum-in-Sub.result _ _ _ _ c.sum-in-Sub.ensures
    (sum_text c.args.place (by_ix (ix_step c.args.prelude (seen c.args.names.now)) c.args.e.now) (minus (by_ix (ix_step c.args.prelude (seen c.args.names.now)) c.get-in-Sub.result.now).whole (by_ix (ix_step c.args.prelude (seen c.args.names.now)) c.get-in-Sub-2.result.now).right_of_sum) (sub_is (ix_step c.args.prelude (seen c.args.names.now)) c.args.e.now c.in-Sub.a c.in-Sub.b c.get-in-Sub.result.now c.get-in-Sub-2.result.now c.in-Sub.is c.get-in-Sub.ensures c.get-in-Sub-2.ensures))

pub ix-sum-requires-in-Sub : goal.ix-sum-requires-in-Sub
ix-sum-requires-in-Sub t c =
    let n : nodes_of_ix c.args.e.now ≡ 1 + nodes_of_ix c.get-in-Sub.result.now + nodes_of_ix c.get-in-Sub-2.result.now = ap (λ i. i.nodes) (sub_is index_step c.args.e.now c.in-Sub.a c.in-Sub.b c.get-in-Sub.result.now c.get-in-Sub-2.result.now c.in-Sub.is c.get-in-Sub.ensures c.get-in-Sub-2.ensures) in
    omega (arith, n)

pub ix-returns-in-Mul : goal.ix-returns-in-Mul
ix-returns-in-Mul t c =
    told c.product.result _ _ _ _ c.product.ensures
    (product_text c.args.place (by_ix (ix_step c.args.prelude (seen c.args.names.now)) c.args.e.now) (times (by_ix (ix_step c.args.prelude (seen c.args.names.now)) c.get-in-Mul.result.now).left_of_product (by_ix (ix_step c.args.prelude (seen c.args.names.now)) c.get-in-Mul-2.result.now).right_of_product) (mul_is (ix_step c.args.prelude (seen c.args.names.now)) c.args.e.now c.in-Mul.a c.in-Mul.b c.get-in-Mul.result.now c.get-in-Mul-2.result.now c.in-Mul.is c.get-in-Mul.ensures c.get-in-Mul-2.ensures))

pub ix-product-requires : goal.ix-product-requires
ix-product-requires t c =
    let n : nodes_of_ix c.args.e.now ≡ 1 + nodes_of_ix c.get-in-Mul.result.now + nodes_of_ix c.get-in-Mul-2.result.now = ap (λ i. i.nodes) (mul_is index_step c.args.e.now c.in-Mul.a c.in-Mul.b c.get-in-Mul.result.now c.get-in-Mul-2.result.now c.in-Mul.is c.get-in-Mul.ensures c.get-in-Mul-2.ensures) in
    omega (arith, n)

pub ix-returns-in-Min : goal.ix-returns-in-Min
ix-returns-in-Min t c =
    told c.call.result _ _ _ _ c.call.ensures
    (chosen_text c.args.prelude c.args.place minimum (by_ix (ix_step c.args.prelude (seen c.args.names.now)) c.args.e.now) (by_ix (ix_step c.args.prelude (seen c.args.names.now)) c.get-in-Min.result.now) (by_ix (ix_step c.args.prelude (seen c.args.names.now)) c.get-in-Min-2.result.now) (min_is (ix_step c.args.prelude (seen c.args.names.now)) c.args.e.now c.in-Min.a c.in-Min.b c.get-in-Min.result.now c.get-in-Min-2.result.now c.in-Min.is c.get-in-Min.ensures c.get-in-Min-2.ensures))

pub ix-call-requires : goal.ix-call-requires
ix-call-requires t c =
    let n : nodes_of_ix c.args.e.now ≡ 1 + nodes_of_ix c.get-in-Min.result.now + nodes_of_ix c.get-in-Min-2.result.now = ap (λ i. i.nodes) (min_is index_step c.args.e.now c.in-Min.a c.in-Min.b c.get-in-Min.result.now c.get-in-Min-2.result.now c.in-Min.is c.get-in-Min.ensures c.get-in-Min-2.ensures) in
    omega (arith, n)

pub ix-returns-in-Max : goal.ix-returns-in-Max
ix-returns-in-Max t c =
    told c.call-in-Max.result _ _ _ _ c.call-in-Max.ensures
    (chosen_text c.args.prelude c.args.place maximum (by_ix (ix_step c.args.prelude (seen c.args.names.now)) c.args.e.now) (by_ix (ix_step c.args.prelude (seen c.args.names.now)) c.get-in-Max.result.now) (by_ix (ix_step c.args.prelude (seen c.args.names.now)) c.get-in-Max-2.result.now) (max_is (ix_step c.args.prelude (seen c.args.names.now)) c.args.e.now c.in-Max.a c.in-Max.b c.get-in-Max.result.now c.get-in-Max-2.result.now c.in-Max.is c.get-in-Max.ensures c.get-in-Max-2.ensures))

pub ix-call-requires-in-Max : goal.ix-call-requires-in-Max
ix-call-requires-in-Max t c =
    let n : nodes_of_ix c.args.e.now ≡ 1 + nodes_of_ix c.get-in-Max.result.now + nodes_of_ix c.get-in-Max-2.result.now = ap (λ i. i.nodes) (max_is index_step c.args.e.now c.in-Max.a c.in-Max.b c.get-in-Max.result.now c.get-in-Max-2.result.now c.in-Max.is c.get-in-Max.ensures c.get-in-Max-2.ensures) in
    omega (arith, n)

pub ix-returns-in-Mod : goal.ix-returns-in-Mod
ix-returns-in-Mod t c =
    told c.call-in-Mod.result _ _ _ _ c.call-in-Mod.ensures
    (chosen_text c.args.prelude c.args.place remainder (by_ix (ix_step c.args.prelude (seen c.args.names.now)) c.args.e.now) (by_ix (ix_step c.args.prelude (seen c.args.names.now)) c.get-in-Mod.result.now) (by_ix (ix_step c.args.prelude (seen c.args.names.now)) c.get-in-Mod-2.result.now) (mod_is (ix_step c.args.prelude (seen c.args.names.now)) c.args.e.now c.in-Mod.a c.in-Mod.b c.get-in-Mod.result.now c.get-in-Mod-2.result.now c.in-Mod.is c.get-in-Mod.ensures c.get-in-Mod-2.ensures))

pub ix-call-requires-in-Mod : goal.ix-call-requires-in-Mod
ix-call-requires-in-Mod t c =
    let n : nodes_of_ix c.args.e.now ≡ 1 + nodes_of_ix c.get-in-Mod.result.now + nodes_of_ix c.get-in-Mod-2.result.now = ap (λ i. i.nodes) (mod_is index_step c.args.e.now c.in-Mod.a c.in-Mod.b c.get-in-Mod.result.now c.get-in-Mod-2.result.now c.in-Mod.is c.get-in-Mod.ensures c.get-in-Mod-2.ensures) in
    omega (arith, n)

pub ix-returns-in-Floord : goal.ix-returns-in-Floord
ix-returns-in-Floord t c =
    let by : SFits w64 c.in-Floord.by = search rules in
    told c.quotient.result _ _ _ _ (simp to_z-of_z at c.quotient.ensures)
    (divided_text c.args.prelude c.args.place down (by_ix (ix_step c.args.prelude (seen c.args.names.now)) c.args.e.now) (by_ix (ix_step c.args.prelude (seen c.args.names.now)) c.get-in-Floord.result.now) c.in-Floord.by (floord_is (ix_step c.args.prelude (seen c.args.names.now)) c.args.e.now c.in-Floord.a c.get-in-Floord.result.now c.in-Floord.by c.in-Floord.is c.get-in-Floord.ensures))

pub ix-quotient-requires : goal.ix-quotient-requires
ix-quotient-requires t c =
    let n : nodes_of_ix c.args.e.now ≡ 1 + nodes_of_ix c.get-in-Floord.result.now = ap (λ i. i.nodes) (floord_is index_step c.args.e.now c.in-Floord.a c.get-in-Floord.result.now c.in-Floord.by c.in-Floord.is c.get-in-Floord.ensures) in
    omega (arith, n)

pub ix-returns-in-Ceild : goal.ix-returns-in-Ceild
ix-returns-in-Ceild t c =
    let by : SFits w64 c.in-Ceild.by = search rules in
    told c.quotient-in-Ceild.result _ _ _ _ (simp to_z-of_z at c.quotient-in-Ceild.ensures)
    (divided_text c.args.prelude c.args.place up (by_ix (ix_step c.args.prelude (seen c.args.names.now)) c.args.e.now) (by_ix (ix_step c.args.prelude (seen c.args.names.now)) c.get-in-Ceild.result.now) c.in-Ceild.by (ceild_is (ix_step c.args.prelude (seen c.args.names.now)) c.args.e.now c.in-Ceild.a c.get-in-Ceild.result.now c.in-Ceild.by c.in-Ceild.is c.get-in-Ceild.ensures))

pub ix-quotient-requires-in-Ceild : goal.ix-quotient-requires-in-Ceild
ix-quotient-requires-in-Ceild t c =
    let n : nodes_of_ix c.args.e.now ≡ 1 + nodes_of_ix c.get-in-Ceild.result.now = ap (λ i. i.nodes) (ceild_is index_step c.args.e.now c.in-Ceild.a c.get-in-Ceild.result.now c.in-Ceild.by c.in-Ceild.is c.get-in-Ceild.ensures) in
    omega (arith, n)

pub opposite-ix-requires : goal.opposite-ix-requires
opposite-ix-requires t c = omega arith

pub sum-ix-requires : goal.sum-ix-requires
sum-ix-requires t c = omega arith

pub sum-ix-requires-2 : goal.sum-ix-requires-2
sum-ix-requires-2 t c = omega arith

pub product-ix-requires : goal.product-ix-requires
product-ix-requires t c = omega arith

pub product-ix-requires-2 : goal.product-ix-requires-2
product-ix-requires-2 t c = omega arith

pub call-ix-requires : goal.call-ix-requires
call-ix-requires t c = omega arith

pub call-ix-requires-2 : goal.call-ix-requires-2
call-ix-requires-2 t c = omega arith

pub quotient-ix-requires : goal.quotient-ix-requires
quotient-ix-requires t c = omega arith

use Rattle.std.proofs.Common.{rules, ◌≡◌, neg_ℤ, ◌+◌, ◌-◌, ◌/◌, ◌≤◌, ◌∙◌, sym, ap, refl, Ok, Err, arith, to_z-of_z, FitsSigned, w64}
use Rattle.std.proofs.lemmas.Result.{err_from_is_err_and}
use Rattle.affc_ast.specs.Cause.{Overflow, ◌>>=◌}
use Rattle.affc_ast.specs.Index.{in_int64, divided, floor_of, ceiling_of, index_value, nodes_of_ix}
use Rattle.affc_interp.specs.Operands.{below, first_operand, operators}
use Rattle.affc_interp.specs.Steps.{joined, right_nodes}
use Rattle.affc_interp.specs.declared.step.Step.TheVariants.{Opposite, Floor, Ceiling, Joined}
use Rattle.affc_interp.proofs.Steps.{step_value}
use Rattle.affc_interp.proofs.Rows.{ix_row_fits, ix_part, ix_stuck, some_nodes_ix}
use Rattle.affc_interp.proofs.Later.{index_later, index_below}
use Rattle.affc_interp.proofs.index.+eval.Goals as goal

pub outermost-unreachable-requires : goal.outermost-unreachable-requires
outermost-unreachable-requires t c = let n = c.in_default.ensures.none in let k = c.requires.operator in omega (arith, n, k)

pub outermost-second-requires : goal.outermost-second-requires
outermost-second-requires t c =
    let h = c.in-Some.ensures in
    let n : nodes_of_ix c.args.e.now ≡ 1 + nodes_of_ix c.in-Some.a.now + nodes_of_ix c.in-Joined.b.now = h.nodes ∙ ap (λ s. 1 + nodes_of_ix c.in-Some.a.now + right_nodes s) c.in-Joined.is in
    let f : nodes_of_ix c.in-Some.a.now ≡ nodes_of_ix (first_operand c.args.e.now) = ap nodes_of_ix h.first in
    (omega (arith, n, f), omega (arith, n))

pub outermost-returns-in-Opposite : goal.outermost-returns-in-Opposite
outermost-returns-in-Opposite t c =
    let r = step_value c.args.e.now c.in-Some.a.now c.in-Some.step Opposite c.args.node c.args.names.now c.args.x c.in-Some.ensures c.in-Opposite.is c.requires.inner in
    c.opposite.ensures ∙ ap (λ z. in_int64 c.args.node (neg_ℤ z)) (to_z-of_z c.ranges.x) ∙ sym r

pub outermost-returns-in-Floor : goal.outermost-returns-in-Floor
outermost-returns-in-Floor t c =
    let fits : FitsSigned w64 c.in-Floor.n = search rules in
    let r = step_value c.args.e.now c.in-Some.a.now c.in-Some.step (Floor c.in-Floor.n) c.args.node c.args.names.now c.args.x c.in-Some.ensures c.in-Floor.is c.requires.inner in
    c.floor.ensures ∙ (λ i. divided c.args.node floor_of (to_z-of_z c.ranges.x i) (to_z-of_z fits i)) ∙ sym r

pub outermost-returns-in-Ceiling : goal.outermost-returns-in-Ceiling
outermost-returns-in-Ceiling t c =
    let fits : FitsSigned w64 c.in-Ceiling.n = search rules in
    let r = step_value c.args.e.now c.in-Some.a.now c.in-Some.step (Ceiling c.in-Ceiling.n) c.args.node c.args.names.now c.args.x c.in-Some.ensures c.in-Ceiling.is c.requires.inner in
    c.ceiling.ensures ∙ (λ i. divided c.args.node ceiling_of (to_z-of_z c.ranges.x i) (to_z-of_z fits i)) ∙ sym r

pub outermost-returns-in_err-y-in-Joined : goal.outermost-returns-in_err-y-in-Joined
outermost-returns-in_err-y-in-Joined t c =
    let q = err_from_is_err_and c.from_residual.result c.from_residual.ensures.1 in
    let j = c.in-Joined.join in
    let r = step_value c.args.e.now c.in-Some.a.now c.in-Some.step (Joined j c.in-Joined.b) c.args.node c.args.names.now c.args.x c.in-Some.ensures c.in-Joined.is c.requires.inner in
    rw (q.1, q.2) (ap (λ z. z >>= joined j c.args.node c.args.x) c.in_err-y-in-Joined.ensures ∙ sym r)

pub outermost-returns-in_ok-y-in-Joined : goal.outermost-returns-in_ok-y-in-Joined
outermost-returns-in_ok-y-in-Joined t c =
    let fits : FitsSigned w64 c.in_ok-y-in-Joined.y = search rules in
    let j = c.in-Joined.join in
    let r = step_value c.args.e.now c.in-Some.a.now c.in-Some.step (Joined j c.in-Joined.b) c.args.node c.args.names.now c.args.x c.in-Some.ensures c.in-Joined.is c.requires.inner in
    c.joined_values.ensures ∙ (λ i. joined j c.args.node (to_z-of_z c.ranges.x i) (to_z-of_z fits i)) ∙ ap (λ z. z >>= joined j c.args.node c.args.x) c.in_ok-y-in-Joined.ensures ∙ sym r

pub eval-innermost-count-requires : goal.eval-innermost-count-requires
eval-innermost-count-requires t c = let h = ix_row_fits c.args.e.now in omega (arith, h)

pub eval-outwards-requires : goal.eval-outwards-requires
eval-outwards-requires t c =
    let e = c.args.e.now in
    let k = c.innermost-count.result.0 in
    let is : k ≡ operators e = c.innermost-count.ensures.count in
    let some = some_nodes_ix (below first_operand k e) in
    let own = some_nodes_ix e in
    let fx : FitsSigned w64 c.atom_value-x.result = search rules in
    let inner = ap (λ n. index_value (below first_operand n e) (c.args.node + k) c.args.names.now) is ∙ sym (ap (λ a. index_value a (c.args.node + k) c.args.names.now) c.innermost-count.ensures.atom)
    ∙ c.atom_value-x.ensures (c.args.node + k) ∙ ap Ok (sym (to_z-of_z fx)) in
    (omega (arith, some, own), (omega arith, (omega (arith, is), inner)))

pub outwards-outermost-requires : goal.outwards-outermost-requires
outwards-outermost-requires t c =
    let e = c.args.e.now in
    let one : c.args.count ≡ 1 = c.if-count-eq1.true in
    let h = c.requires.count in
    let part = ix_part c.args.names.now e (first_operand e) 1 c.args.node refl 0 (omega (arith, one, h)) in
    let s = part.smaller in
    let n : nodes_of_ix (below first_operand c.args.count e) ≡ nodes_of_ix (first_operand e) = ap (λ k. nodes_of_ix (below first_operand k e)) one in
    let inner = sym (ap (λ k. index_value (below first_operand k e) (c.args.node + k) c.args.names.now) one) ∙ c.requires.inner ∙ ap Ok (sym (to_z-of_z c.ranges.x)) in
    (omega (arith, s, n), (omega arith, (omega (arith, one, h), inner)))

pub outwards-overflow_add-node : goal.outwards-overflow_add-node
outwards-overflow_add-node t c = let h = ix_row_fits c.args.e.now in let k = c.requires.count in omega (arith, h, k)

pub outwards-outwards-requires : goal.outwards-outwards-requires
outwards-outwards-requires t c =
    let e = c.args.e.now in
    let m = c.below-middle.result.now in
    let h = c.args.count / 2 in
    let j = c.args.count - h in
    let k = c.requires.count in
    let z : h + j ≡ c.args.count = omega arith in
    let part = ix_part c.args.names.now e m h c.args.node c.below-middle.ensures j (omega (arith, z, k)) in
    let fewer = part.fewer in
    let smaller = part.smaller in
    let rest = part.rest in
    let same : nodes_of_ix (below first_operand c.args.count e) ≡ nodes_of_ix (below first_operand j m) = ap (λ n. nodes_of_ix (below first_operand n e)) (sym z) ∙ ap nodes_of_ix part.inner in
    let some : 1 ≤ h = omega arith in
    let inner = sym part.read_on ∙ ap (λ n. index_value (below first_operand n e) (c.args.node + n) c.args.names.now) z ∙ c.requires.inner ∙ ap Ok (sym (to_z-of_z c.ranges.x)) in
    (omega (arith, smaller, rest, same, some), (omega (arith, smaller), (omega (arith, fewer, z, k), inner)))

pub outwards-returns-in_err-y : goal.outwards-returns-in_err-y
outwards-returns-in_err-y t c =
    let q = err_from_is_err_and c.from_residual.result c.from_residual.ensures.1 in
    let k = c.requires.count in
    rw (q.1, q.2) (ix_stuck c.args.names.now c.args.e.now c.below-middle.result.now (c.args.count / 2) c.args.node c.below-middle.ensures (Overflow c.in_err-y.field-0.0) (omega (arith, k)) c.in_err-y.ensures)

pub outwards-outwards-requires-2 : goal.outwards-outwards-requires-2
outwards-outwards-requires-2 t c =
    let e = c.args.e.now in
    let m = c.below-middle.result.now in
    let h = c.args.count / 2 in
    let j = c.args.count - h in
    let k = c.requires.count in
    let z : h + j ≡ c.args.count = omega arith in
    let part = ix_part c.args.names.now e m h c.args.node c.below-middle.ensures j (omega (arith, z, k)) in
    let smaller = part.smaller in
    let less = part.less in
    let same : nodes_of_ix (below first_operand c.args.count e) ≡ nodes_of_ix (below first_operand j m) = ap (λ n. nodes_of_ix (below first_operand n e)) (sym z) ∙ ap nodes_of_ix part.inner in
    let here : nodes_of_ix (below first_operand h e) ≡ nodes_of_ix m = ap nodes_of_ix (sym c.below-middle.ensures) in
    let some : 1 ≤ j = omega arith in
    let fy : FitsSigned w64 c.in_ok-y.y = search rules in
    let inner = ap (λ x. index_value x (c.args.node + h) c.args.names.now) (sym c.below-middle.ensures) ∙ sym c.in_ok-y.ensures ∙ ap Ok (sym (to_z-of_z fy)) in
    (omega (arith, smaller, less, same, here, some), (omega arith, (omega (arith, k), inner)))

pub second-overflow_add-result-in-Err-2 : goal.second-overflow_add-result-in-Err-2
second-overflow_add-result-in-Err-2 t c = let h = index_below c.args.names.now c.args.b.now c.in-Err.fault c.in-Err.ensures in let n = c.node_count.ensures in omega (arith, h, n)

pub second-returns-in-Ok : goal.second-returns-in-Ok
second-returns-in-Ok t c =
    let fy : FitsSigned w64 c.in-Ok.y = search rules in
    ap Ok (to_z-of_z fy) ∙ sym (index_later c.args.names.now c.args.b.now (c.args.node + 1 + nodes_of_ix c.args.a.now) (Ok _) c.in-Ok.ensures)

pub second-returns-in-Err : goal.second-returns-in-Err
second-returns-in-Err t c =
    ap (λ m. Err (Overflow (c.args.node + 1 + m + c.in-Err.fault))) c.node_count.ensures
    ∙ sym (index_later c.args.names.now c.args.b.now (c.args.node + 1 + nodes_of_ix c.args.a.now) (Err c.in-Err.fault) c.in-Err.ensures)

use Rattle.std.proofs.Common.{◌≡◌, ◌+◌, ◌-◌, ◌/◌, ◌≤◌, ◌∙◌, sym, ap, refl, Ok, Err, arith}
use Rattle.std.proofs.lemmas.Result.{err_from_is_err_and}
use Rattle.affc_ast.specs.Values.{value_of}
use Rattle.affc_interp.specs.Operands.{below, first_value, value_operators}
use Rattle.affc_interp.specs.declared.fault.Fault.{Fault}
use Rattle.affc_interp.specs.Seen.{cause_at, sight_at}
use Rattle.affc_interp.proofs.Rows.{value_row_fits, value_part, value_stuck, some_nodes_value, loads_below}
use Rattle.affc_interp.proofs.Later.{value_later, value_fault, value_below, later_fits}
use Rattle.affc_interp.proofs.value.+value.Goals as goal

pub value-innermost-count-requires : goal.value-innermost-count-requires
value-innermost-count-requires t c = let h = value_row_fits c.args.v.now in omega (arith, h)

pub value-outwards-requires : goal.value-outwards-requires
value-outwards-requires t c =
    let e = c.args.v.now in
    let k = c.innermost-count.result.0 in
    let is : k ≡ value_operators e = c.innermost-count.ensures.count in
    let some = some_nodes_value (below first_value k e) in
    let own = some_nodes_value e in
    let inner = ap (λ n. (value_of (below first_value n e)).value (sight_at (c.args.node + k) c.args.access c.args.names.now c.args.memory.now c.args.here.now)) is
    ∙ sym (ap (λ a. (value_of a).value (sight_at (c.args.node + k) c.args.access c.args.names.now c.args.memory.now c.args.here.now)) c.innermost-count.ensures.operand)
    ∙ sym c.in_ok-x.ensures in
    (omega (arith, some, own), (omega arith, (omega arith, (omega (arith, is), inner))))

pub outwards-outermost-requires : goal.outwards-outermost-requires
outwards-outermost-requires t c =
    let e = c.args.v.now in
    let one : c.args.count ≡ 1 = c.if-count-eq1.true in
    let h = c.requires.count in
    let part = value_part c.args.access c.args.names.now c.args.memory.now c.args.here.now e (first_value e) 1 c.args.node refl 0 (omega (arith, one, h)) in
    let s = part.smaller in
    let n : (value_of (below first_value c.args.count e)).nodes ≡ (value_of (first_value e)).nodes = ap (λ k. (value_of (below first_value k e)).nodes) one in
    let inner = sym (ap (λ k. (value_of (below first_value k e)).value (sight_at (c.args.node + k) c.args.access c.args.names.now c.args.memory.now c.args.here.now)) one) ∙ c.requires.inner in
    (omega (arith, s, n), (omega arith, (omega arith, (omega (arith, one, h), inner))))

pub outwards-overflow_add-node : goal.outwards-overflow_add-node
outwards-overflow_add-node t c = let h = value_row_fits c.args.v.now in let k = c.requires.count in omega (arith, h, k)

pub outwards-outwards-requires : goal.outwards-outwards-requires
outwards-outwards-requires t c =
    let e = c.args.v.now in
    let m = c.below-middle.result.now in
    let h = c.args.count / 2 in
    let j = c.args.count - h in
    let k = c.requires.count in
    let z : h + j ≡ c.args.count = omega arith in
    let part = value_part c.args.access c.args.names.now c.args.memory.now c.args.here.now e m h c.args.node c.below-middle.ensures j (omega (arith, z, k)) in
    let fewer = part.fewer in
    let smaller = part.smaller in
    let rest = part.rest in
    let same : (value_of (below first_value c.args.count e)).nodes ≡ (value_of (below first_value j m)).nodes = ap (λ n. (value_of (below first_value n e)).nodes) (sym z) ∙ ap (λ x. (value_of x).nodes) part.inner in
    let some : 1 ≤ h = omega arith in
    let less = loads_below h e in
    let loads : (value_of m).loads ≡ (value_of (below first_value h e)).loads = ap (λ x. (value_of x).loads) c.below-middle.ensures in
    let inner = sym part.read_on ∙ ap (λ n. (value_of (below first_value n e)).value (sight_at (c.args.node + n) c.args.access c.args.names.now c.args.memory.now c.args.here.now)) z ∙ c.requires.inner in
    (omega (arith, smaller, rest, same, some), (omega (arith, smaller), (omega (arith, less, loads), (omega (arith, fewer, z, k), inner))))

pub outwards-returns-in_err-y : goal.outwards-returns-in_err-y
outwards-returns-in_err-y t c =
    let q = err_from_is_err_and c.from_residual.result c.from_residual.ensures.1 in
    let k = c.requires.count in
    rw (q.1, q.2) (value_stuck c.args.access c.args.names.now c.args.memory.now c.args.here.now c.args.v.now c.below-middle.result.now (c.args.count / 2) c.args.node c.below-middle.ensures
    (cause_at c.args.here.now c.in_err-y.field-0.0) (omega (arith, k)) c.in_err-y.ensures)

pub outwards-outwards-requires-2 : goal.outwards-outwards-requires-2
outwards-outwards-requires-2 t c =
    let e = c.args.v.now in
    let m = c.below-middle.result.now in
    let h = c.args.count / 2 in
    let j = c.args.count - h in
    let k = c.requires.count in
    let z : h + j ≡ c.args.count = omega arith in
    let part = value_part c.args.access c.args.names.now c.args.memory.now c.args.here.now e m h c.args.node c.below-middle.ensures j (omega (arith, z, k)) in
    let smaller = part.smaller in
    let less = part.less in
    let same : (value_of (below first_value c.args.count e)).nodes ≡ (value_of (below first_value j m)).nodes = ap (λ n. (value_of (below first_value n e)).nodes) (sym z) ∙ ap (λ x. (value_of x).nodes) part.inner in
    let here : (value_of (below first_value h e)).nodes ≡ (value_of m).nodes = ap (λ x. (value_of x).nodes) (sym c.below-middle.ensures) in
    let some : 1 ≤ j = omega arith in
    let inner = ap (λ x. (value_of x).value (sight_at (c.args.node + h) c.args.access c.args.names.now c.args.memory.now c.args.here.now)) (sym c.below-middle.ensures) ∙ sym c.in_ok-y.ensures in
    (omega (arith, smaller, less, same, here, some), (omega arith, (omega arith, (omega (arith, k), inner))))

pub second-returns-in-Ok : goal.second-returns-in-Ok
second-returns-in-Ok t c =
    sym (value_later c.args.names.now c.args.memory.now c.args.here.now c.args.right.now (c.args.node + 1 + (value_of c.args.left.now).nodes) (c.args.access + (value_of c.args.left.now).loads) (Ok c.in-Ok.y) c.in-Ok.ensures)

pub second-later-requires : goal.second-later-requires
second-later-requires t c =
    let e = c.args.right.now in
    let n = c.value_nodes.ensures in
    let l = c.load_count.ensures in
    later_fits (value_of e).nodes (value_of e).loads (c.args.node + 1 + c.value_nodes.result) (c.args.access + c.load_count.result) c.in-Err.fault (omega (arith, n)) (omega (arith, l))
    (value_below c.args.names.now c.args.memory.now c.args.here.now e c.in-Err.fault c.in-Err.ensures)

pub second-returns-in-Err : goal.second-returns-in-Err
second-returns-in-Err t c =
    let e = c.args.right.now in
    ap (λ (f : Fault). Err (cause_at c.args.here.now f)) c.later.ensures
    ∙ value_fault c.args.names.now c.args.memory.now c.args.here.now e (c.args.node + 1 + c.value_nodes.result) (c.args.access + c.load_count.result) c.in-Err.fault c.in-Err.ensures
    ∙ (λ i. (value_of e).value (sight_at (c.args.node + 1 + c.value_nodes.ensures i) (c.args.access + c.load_count.ensures i) c.args.names.now c.args.memory.now c.args.here.now))

pub value-overflow_add-node : goal.value-overflow_add-node
value-overflow_add-node t c = let h = value_row_fits c.args.v.now in let is = c.innermost-count.ensures.count in omega (arith, h, is)

pub value-operand-requires-clause-nodes : goal.value-operand-requires-clause-nodes
value-operand-requires-clause-nodes t c =
    let e = c.args.v.now in
    let part = value_part c.args.access c.args.names.now c.args.memory.now c.args.here.now e c.innermost-count.result.1.now (value_operators e) c.args.node c.innermost-count.ensures.operand 0 (omega arith) in
    let s = part.smaller in
    let is = c.innermost-count.ensures.count in
    omega (arith, s, is)

pub value-returns-in_err-x : goal.value-returns-in_err-x
value-returns-in_err-x t c =
    let e = c.args.v.now in
    let m = c.innermost-count.result.1.now in
    let q = err_from_is_err_and c.from_residual.result c.from_residual.ensures.1 in
    rw (q.1, q.2) (value_stuck c.args.access c.args.names.now c.args.memory.now c.args.here.now e m (value_operators e) c.args.node c.innermost-count.ensures.operand
    (cause_at c.args.here.now c.in_err-x.field-0.0) (omega arith)
    (c.in_err-x.ensures ∙ ap (λ k. (value_of m).value (sight_at (c.args.node + k) c.args.access c.args.names.now c.args.memory.now c.args.here.now)) c.innermost-count.ensures.count))

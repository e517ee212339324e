use Rattle.std.proofs.Common.{rules, subst, ℤ, ◌≡◌, ◌+◌, ◌^◌, ◌<◌, ◌+ℤ◌, pos, ◌∙◌, ap, refl, sym, map, length, arith, to_z, of_z, to_z-of_z, FitsSigned, w64}
use Rattle.std.proofs.lemmas.Bool.{and_parts}
use Rattle.std.proofs.lemmas.Result.{err_from_is_err_and}
use Rattle.affc_ast.specs.Conditions.{nodes_of_cond}
use Rattle.affc_ast.specs.Index.{nodes_of_ix}
use Rattle.affc_ast.specs.Meaning.{nodes_of_locals}
use Rattle.affc_interp.specs.Budget.{Exec, after, exec_of, all_of, all_within, nodes_among, assigns_among, turns_within}
use Rattle.affc_interp.specs.Machines.{Finishes, Halts, turn_of, scope_of, position}
use Rattle.affc_interp.proofs.Execs.{for_is, if_is, block_is}
use Rattle.affc_interp.proofs.Bodies.{halves, stops_after, goes_on_after}
use Rattle.affc_interp.proofs.Turns.{goes_on, stops}
use Rattle.affc_interp.proofs.machine.Machine.+exec.Goals as goal

pub exec_all-exec_all-requires : goal.exec_all-exec_all-requires
exec_all-exec_all-requires t c =
    let body = c.args.body.now in
    let first = c.split_at.result.0.now in
    let others = c.split_at.result.1.now in
    let f = c.split_at.ensures.front_len in
    let g = c.split_at.ensures.back_len in
    let l = c.in_default.len_at_least in
    let p = halves body first others (length c.args.self.now.memory.extents) c.split_at.ensures.by_index.0 (omega (arith, f, l)) (omega (arith, g, l)) in
    let n = p.nodes in
    let a = p.assigns in
    let s = p.some in
    let o = p.some_other in
    (omega (arith, n, o), (omega (arith, n), (omega (arith, a), p.first_within c.requires.within)))

pub exec_all-exec_all-requires-in_default : goal.exec_all-exec_all-requires-in_default
exec_all-exec_all-requires-in_default t c =
    let body = c.args.body.now in
    let first = c.split_at.result.0.now in
    let others = c.split_at.result.1.now in
    let f = c.split_at.ensures.front_len in
    let g = c.split_at.ensures.back_len in
    let l = c.in_default.len_at_least in
    let p = halves body first others (length c.args.self.now.memory.extents) c.split_at.ensures.by_index.0 (omega (arith, f, l)) (omega (arith, g, l)) in
    let n = p.nodes in
    let a = p.assigns in
    let s = p.some in
    let o = p.some_other in
    let nodes = c.nodes_of_all.ensures in
    let assigns = c.assigns_of_all.ensures in
    let within = ap (λ x. all_within (map exec_of others) (length x.extents)) c.in_ok-exec_all-in_default.ensures.1 ∙ p.others_within c.requires.within in
    (omega (arith, n, s), (omega (arith, n, nodes), (omega (arith, a, assigns), within)))

pub exec_all-returns-in_err-exec_all-in_default : goal.exec_all-returns-in_err-exec_all-in_default
exec_all-returns-in_err-exec_all-in_default t c =
    let body = c.args.body.now in
    let first = c.split_at.result.0.now in
    let others = c.split_at.result.1.now in
    let f = c.split_at.ensures.front_len in
    let g = c.split_at.ensures.back_len in
    let l = c.in_default.len_at_least in
    let p = halves body first others (length c.args.self.now.memory.extents) c.split_at.ensures.by_index.0 (omega (arith, f, l)) (omega (arith, g, l)) in
    let q = err_from_is_err_and c.from_residual.result c.from_residual.ensures.1 in
    let m = c.args.self.now in
    rw (q.1, q.2) (stops_after c.exec_all.new.self c.in_err-exec_all-in_default.field-0.0 _ _ _ (p.run m.limit c.args.node c.args.statement (scope_of m) m.memory.store m.steps) c.in_err-exec_all-in_default.ensures)

pub exec_all-returns-in_ok-exec_all-in_default : goal.exec_all-returns-in_ok-exec_all-in_default
exec_all-returns-in_ok-exec_all-in_default t c =
    let body = c.args.body.now in
    let first = c.split_at.result.0.now in
    let others = c.split_at.result.1.now in
    let f = c.split_at.ensures.front_len in
    let g = c.split_at.ensures.back_len in
    let l = c.in_default.len_at_least in
    let p = halves body first others (length c.args.self.now.memory.extents) c.split_at.ensures.by_index.0 (omega (arith, f, l)) (omega (arith, g, l)) in
    let m = c.args.self.now in
    goes_on_after c.exec_all-in_default.result m c.exec_all.new.self c.exec_all-in_default.new.self _ _ (map exec_of others) (c.args.node + c.nodes_of_all.result) (c.args.statement + c.assigns_of_all.result)
    (p.run m.limit c.args.node c.args.statement (scope_of m) m.memory.store m.steps
    ∙ (λ i. after (all_of m.limit (map exec_of first) (position c.args.node c.args.statement) (scope_of m) m.memory.store m.steps)
    (all_of m.limit (map exec_of others) (position (c.args.node + sym c.nodes_of_all.ensures i) (c.args.statement + sym c.assigns_of_all.ensures i)) (scope_of m))))
    c.in_ok-exec_all-in_default.ensures c.exec_all-in_default.ensures

pub turn-loop-k-preserved : goal.turn-loop-k-preserved
turn-loop-k-preserved t c =
    let fx : FitsSigned w64 c.value_at-x.result = search rules in
    let is : to_z w64 (of_z w64 c.value_at-x.result) ≡ to_z w64 (of_z w64 c.args.first) +ℤ pos c.loop-k.k = to_z-of_z fx ∙ c.value_at-x.ensures in
    goes_on c.args.node c.args.inner c.args.statement c.args.count c.loop-k.k (to_z w64 (of_z w64 c.args.first)) (to_z w64 (of_z w64 c.value_at-x.result)) c.args.body.now c.args.self.now c.loop-k.self
    c.loop-k-test.true is c.loop-k.invariant c.step_turn.new.self c.in_ok-step_turn.ensures.run c.in_ok-step_turn.ensures.next

pub turn-returns-in_err-step_turn : goal.turn-returns-in_err-step_turn
turn-returns-in_err-step_turn t c =
    let q = err_from_is_err_and c.from_residual.result c.from_residual.ensures.1 in
    let fx : FitsSigned w64 c.value_at-x.result = search rules in
    let is : to_z w64 (of_z w64 c.value_at-x.result) ≡ to_z w64 (of_z w64 c.args.first) +ℤ pos c.loop-k.k = to_z-of_z fx ∙ c.value_at-x.ensures in
    rw (q.1, q.2) (subst (λ (f : ℤ). Halts c.step_turn.new.self c.in_err-step_turn.field-0.0 (turns_within c.args.self.now.limit c.args.node c.args.count f (turn_of c.args.self.now.limit c.args.body.now c.args.inner c.args.statement (scope_of c.args.self.now)) c.args.self.now.memory.store c.args.self.now.steps)) (to_z-of_z c.ranges.first) (stops c.args.node c.args.inner c.args.statement c.args.count c.loop-k.k (to_z w64 (of_z w64 c.args.first)) (to_z w64 (of_z w64 c.value_at-x.result)) c.args.body.now c.args.self.now c.loop-k.self
    c.loop-k-test.true is c.loop-k.invariant c.step_turn.new.self c.in_err-step_turn.field-0.0 c.in_err-step_turn.ensures.run))

pub exec-exec_for-requires : goal.exec-exec_for-requires
exec-exec_for-requires t c =
    let e = for_is c.args.s.now c.in-For.iter c.in-For.low c.in-For.rel c.in-For.high c.in-For.body c.as_slice.result.now c.in-For.is c.as_slice.ensures in
    let n : (exec_of c.args.s.now).nodes ≡ 1 + nodes_of_ix c.in-For.low + nodes_of_ix c.in-For.high + nodes_among (map exec_of c.as_slice.result.now) = ap (λ x. x.nodes) e in
    let a : (exec_of c.args.s.now).assigns ≡ assigns_among (map exec_of c.as_slice.result.now) = ap (λ x. x.assigns) e in
    (omega (arith, n), (subst (λ k. c.args.node + k < 2 ^ 32) n c.requires.nodes, (subst (λ k. c.args.statement + k < 2 ^ 32) a c.requires.assigns, ap (λ x. x.within (length c.args.self.now.memory.extents)) (sym e) ∙ c.requires.within)))

pub exec-returns-in-For : goal.exec-returns-in-For
exec-returns-in-For t c =
    let e = for_is c.args.s.now c.in-For.iter c.in-For.low c.in-For.rel c.in-For.high c.in-For.body c.as_slice.result.now c.in-For.is c.as_slice.ensures in
    subst (λ (x : Exec). Finishes c.exec_for.result c.args.self.now c.exec_for.new.self (x.run c.args.self.now.limit (position c.args.node c.args.statement) (scope_of c.args.self.now) c.args.self.now.memory.store c.args.self.now.steps)) (sym e) c.exec_for.ensures

pub exec-exec_if-requires : goal.exec-exec_if-requires
exec-exec_if-requires t c =
    let e = if_is c.args.s.now c.in-If.cond c.in-If.cond c.in-If.body c.as_slice-in-If.result.now c.in-If.other c.as_slice-in-If-2.result.now c.in-If.is refl c.as_slice-in-If.ensures c.as_slice-in-If-2.ensures in
    let body = map exec_of c.as_slice-in-If.result.now in
    let other = map exec_of c.as_slice-in-If-2.result.now in
    let arrays = length c.args.self.now.memory.extents in
    let n : (exec_of c.args.s.now).nodes ≡ 1 + nodes_of_cond c.in-If.cond + nodes_among body + nodes_among other = ap (λ x. x.nodes) e in
    let a : (exec_of c.args.s.now).assigns ≡ assigns_among body + assigns_among other = ap (λ x. x.assigns) e in
    let w = and_parts (all_within body arrays) (all_within other arrays) (ap (λ x. x.within arrays) (sym e) ∙ c.requires.within) in
    (omega (arith, n), (subst (λ k. c.args.node + k < 2 ^ 32) n c.requires.nodes, (subst (λ k. c.args.statement + k < 2 ^ 32) a c.requires.assigns, (w.0, w.1))))

pub exec-returns-in-If : goal.exec-returns-in-If
exec-returns-in-If t c =
    let e = if_is c.args.s.now c.in-If.cond c.in-If.cond c.in-If.body c.as_slice-in-If.result.now c.in-If.other c.as_slice-in-If-2.result.now c.in-If.is refl c.as_slice-in-If.ensures c.as_slice-in-If-2.ensures in
    subst (λ (x : Exec). Finishes c.exec_if.result c.args.self.now c.exec_if.new.self (x.run c.args.self.now.limit (position c.args.node c.args.statement) (scope_of c.args.self.now) c.args.self.now.memory.store c.args.self.now.steps)) (sym e) c.exec_if.ensures

pub exec-exec_block-requires : goal.exec-exec_block-requires
exec-exec_block-requires t c =
    let e = block_is c.args.s.now c.in-Block.locals c.as_slice-in-Block.result.now c.in-Block.body c.as_slice-in-Block-2.result.now c.in-Block.is c.as_slice-in-Block.ensures c.as_slice-in-Block-2.ensures in
    let n : (exec_of c.args.s.now).nodes ≡ 1 + nodes_of_locals c.as_slice-in-Block.result.now + nodes_among (map exec_of c.as_slice-in-Block-2.result.now) = ap (λ x. x.nodes) e in
    let a : (exec_of c.args.s.now).assigns ≡ assigns_among (map exec_of c.as_slice-in-Block-2.result.now) = ap (λ x. x.assigns) e in
    (omega (arith, n), (subst (λ k. c.args.node + k < 2 ^ 32) n c.requires.nodes, (subst (λ k. c.args.statement + k < 2 ^ 32) a c.requires.assigns, ap (λ x. x.within (length c.args.self.now.memory.extents)) (sym e) ∙ c.requires.within)))

pub exec-returns-in-Block : goal.exec-returns-in-Block
exec-returns-in-Block t c =
    let e = block_is c.args.s.now c.in-Block.locals c.as_slice-in-Block.result.now c.in-Block.body c.as_slice-in-Block-2.result.now c.in-Block.is c.as_slice-in-Block.ensures c.as_slice-in-Block-2.ensures in
    subst (λ (x : Exec). Finishes c.exec_block.result c.args.self.now c.exec_block.new.self (x.run c.args.self.now.limit (position c.args.node c.args.statement) (scope_of c.args.self.now) c.args.self.now.memory.store c.args.self.now.steps)) (sym e) c.exec_block.ensures

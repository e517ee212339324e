use Rattle.std.proofs.Common.{◌+◌, ◌∙◌, sym, ap, Ok, arith}
use Rattle.affc_interp.proofs.LoadCounts.{loads_fit}
use Rattle.affc_interp.proofs.Stored.{stored_there}
use Rattle.affc_interp.proofs.machine.stored.Goals as goal

pub value-requires-clause-loads : goal.value-requires-clause-loads
value-requires-clause-loads c = let h = loads_fit c.args.e.now in omega arith

pub load_count-requires : goal.load_count-requires
load_count-requires c = let h = loads_fit c.args.e.now in omega arith

pub overflow_add-loads : goal.overflow_add-loads
overflow_add-loads c = let h = loads_fit c.args.e.now in omega arith

pub returns : goal.returns
returns c =
    let r = stored_there c.args.op c.args.array c.args.subs.now c.args.e.now c.args.node c.args.names.now c.args.memory.now c.args.here.now
    c.in_ok-place.place c.in_ok-own.own c.in_ok-v.v c.in_ok-cell.cell (c.args.node + 1 + c.node_sum.result) c.loads_before-loads.result (c.loads_before-loads.result + c.load_count.result)
    c.in_ok-place.ensures (λ xs q. c.in_ok-own.ensures c.args.names.now c.args.here.now xs q) (ap (λ n. c.args.node + 1 + n) c.node_sum.ensures) c.loads_before-loads.ensures.value c.in_ok-v.ensures
    (λ i. c.loads_before-loads.ensures.value i + c.load_count.ensures i) (λ xs q. c.in_ok-cell.ensures c.args.names.now c.args.here.now xs q) in
    (r.0, r.1, r.2 ∙ ap (λ w. Ok ((c.args.array.0, r.0), w)) (sym c.combined_with.ensures))

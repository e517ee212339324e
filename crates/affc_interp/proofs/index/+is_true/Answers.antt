use Rattle.std.proofs.Common.{◌∙◌, ap, sym, arith}
use Rattle.affc_interp.proofs.Conditions.{next_nodes, all_is, any_is}
use Rattle.affc_interp.proofs.index.+is_true.Goals as goal

pub all_true-is_true-requires : goal.all_true-is_true-requires
all_true-is_true-requires t c =
    let n = next_nodes c.args.entries.now c.loop-entry.entry-index c.entry-item.result c.loop-entry-test.true c.entry-item.is in
    let i = c.loop-entry.invariant.nodes in
    let l = c.loop-entry.invariant.later in
    (omega (arith, n, i, l), omega (arith, n, i))

pub some_true-is_true-requires : goal.some_true-is_true-requires
some_true-is_true-requires t c =
    let n = next_nodes c.args.entries.now c.loop-entry.entry-index c.entry-item.result c.loop-entry-test.true c.entry-item.is in
    let i = c.loop-entry.invariant.nodes in
    let l = c.loop-entry.invariant.later in
    (omega (arith, n, i, l), omega (arith, n, i))

pub is_true-returns-in-All : goal.is_true-returns-in-All
is_true-returns-in-All t c =
    let is = all_is c.args.c.now c.in-All.entries c.as_slice.result.now c.in-All.is c.as_slice.ensures in
    c.all_true.ensures ∙ ap (λ r. r.value c.args.node c.args.names.now) (sym is)

pub is_true-returns-in-Any : goal.is_true-returns-in-Any
is_true-returns-in-Any t c =
    let is = any_is c.args.c.now c.in-Any.entries c.as_slice-in-Any.result.now c.in-Any.is c.as_slice-in-Any.ensures in
    c.some_true.ensures ∙ ap (λ r. r.value c.args.node c.args.names.now) (sym is)

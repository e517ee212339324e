use Rattle.std.proofs.Common.{refl}
use Rattle.affc_certify.proofs.ShownLemmas.{rising_at, begun, one_more, all_shown}
use Rattle.affc_certify.proofs.shown.are_shown.Goals as goal

-- src/shown.rt:197:5
pub loop-array-init : goal.loop-array-init
loop-array-init c = record {
  from = rising_at c.rising_end.result c.args.folds.now c.rising_end.ensures c.is_none.result c.is_none.ensures c.if-is_none.false;
  same = λ a l. refl;
  shown = begun c.args.nest.now c.args.folds.now c.args.shown.now;
}

-- src/shown.rt:197:5
pub loop-array-preserved : goal.loop-array-preserved
loop-array-preserved c =
    let m = one_more c.args.nest.now c.args.folds.now c.loop-array.rest.now c.from_array-rest.result.now c.args.shown.now c.loop-array.array-index c.loop-array.next c.in-Some.behind c.loop-array-item.result
    c.loop-array-item.is c.loop-array-test.true c.if-array-next.false c.in-Some.ensures.1 c.loop-array.invariant.same c.loop-array.invariant.shown c.from_array-rest.ensures.from
    c.from_array-rest.ensures.same (c.in_ok-is_shown.ensures c.if-not-branch.false) in
    record { from = m.from; same = m.same; shown = m.so_far }

-- src/shown.rt:184:1
pub returns : goal.returns
returns c t = all_shown c.args.nest.now c.args.folds.now c.args.shown.now c.loop-array.array-index c.loop-array-test.false c.loop-array.invariant.shown

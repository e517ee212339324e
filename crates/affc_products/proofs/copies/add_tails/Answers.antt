use Rattle.std.proofs.Common.{arith, ◌∙◌, []}
use Rattle.affc_products.specs.Chosen.{rows_of}
use Rattle.affc_products.proofs.ProvedLemmas.{fits_behind, added_more, all_added}
use Rattle.affc_products.proofs.copies.add_tails.Goals as goal

pub add_tail-requires-clause-room : goal.add_tail-requires-clause-room
add_tail-requires-clause-room c =
    let h = fits_behind (rows_of c.loop-tail.chosen.items) (rows_of c.args.chosen.now.items) c.args.tails.now c.loop-tail.tail-index c.tail-item.result c.as_slice.result.now 0 1024
    c.loop-tail.invariant.same c.loop-tail-test.true c.tail-item.is c.as_slice.ensures (omega (arith, c.requires.room)) in
    omega (arith, h)

pub loop-tail-preserved : goal.loop-tail-preserved
loop-tail-preserved c = record {
  same = c.in_ok-add_tail.ensures.same ∙ c.loop-tail.invariant.same;
  added = added_more c.args.columns (rows_of c.loop-tail.chosen.items) (rows_of c.args.chosen.now.items) c.args.tails.now [] c.loop-tail.tail-index c.tail-item.result c.as_slice.result.now
      c.args.out.now.items c.loop-tail.out.items c.add_tail.new.out.items
      c.loop-tail.invariant.same c.loop-tail-test.true c.tail-item.is c.as_slice.ensures c.loop-tail.invariant.added c.in_ok-add_tail.ensures.added;
}

pub returns-clause-added : goal.returns-clause-added
returns-clause-added c =
    all_added c.args.columns (rows_of c.args.chosen.now.items) c.args.tails.now [] c.loop-tail.tail-index c.args.out.now.items c.loop-tail.out.items c.loop-tail-test.false c.loop-tail.invariant.added

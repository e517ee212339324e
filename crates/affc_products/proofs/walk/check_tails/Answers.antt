use Rattle.std.proofs.Common.{arith, ◌++◌, ◌∙◌, [], take}
use Rattle.std.specs.List.{flat_map}
use Rattle.affc_products.specs.Products.{product}
use Rattle.affc_products.specs.Chosen.{rows_of}
use Rattle.affc_products.proofs.ProvedLemmas.{fits_behind, step_passed, step_failed, all_passed, proved_count}
use Rattle.affc_products.proofs.walk.check_tails.Goals as goal

pub check_tail-requires-clause-room : goal.check_tail-requires-clause-room
check_tail-requires-clause-room c =
    let h = fits_behind (rows_of c.loop-tail.chosen.items) (rows_of c.args.chosen.now.items) c.args.tails.now c.loop-tail.tail-index c.tail-item.result c.as_slice.result.now 0 1024
    c.loop-tail.invariant.same c.loop-tail-test.true c.tail-item.is c.as_slice.ensures (omega (arith, c.requires.room)) in
    omega (arith, h)

pub number_of-requires-clause-left : goal.number_of-requires-clause-left
number_of-requires-clause-left c =
    let before = flat_map (λ u. product c.args.columns (rows_of c.args.chosen.now.items ++ u) []) (take c.loop-tail.tail-index c.args.tails.now) in
    let h = proved_count before c.args.proofs.now c.loop-tail.left.now c.loop-tail.invariant.proved in
    omega (arith, h)

pub returns-in-Failed-clause-step : goal.returns-in-Failed-clause-step
returns-in-Failed-clause-step c =
    let f = rw c.in-Failed.is at c.in_ok-step.ensures.step in
    step_failed c.args.columns (rows_of c.loop-tail.chosen.items) (rows_of c.args.chosen.now.items) c.args.tails.now [] c.loop-tail.tail-index c.tail-item.result c.as_slice.result.now
    c.args.proofs.now c.loop-tail.left.now c.in-Failed.number c.number_of.result
    c.loop-tail.invariant.same c.loop-tail-test.true c.tail-item.is c.as_slice.ensures c.loop-tail.invariant.proved f c.number_of.ensures

pub loop-tail-preserved : goal.loop-tail-preserved
loop-tail-preserved c =
    let f = rw c.in-Passed.is at c.in_ok-step.ensures.step in
    record {
      same = c.in_ok-step.ensures.same ∙ c.loop-tail.invariant.same;
      proved = step_passed c.args.columns (rows_of c.loop-tail.chosen.items) (rows_of c.args.chosen.now.items) c.args.tails.now [] c.loop-tail.tail-index c.tail-item.result c.as_slice.result.now
          c.args.proofs.now c.loop-tail.left.now c.in-Passed.rest.now
          c.loop-tail.invariant.same c.loop-tail-test.true c.tail-item.is c.as_slice.ensures c.loop-tail.invariant.proved f;
    }

pub returns-clause-step : goal.returns-clause-step
returns-clause-step c =
    all_passed c.args.columns (rows_of c.args.chosen.now.items) c.args.tails.now [] c.loop-tail.tail-index c.args.proofs.now c.loop-tail.left.now c.loop-tail-test.false c.loop-tail.invariant.proved

use Rattle.std.proofs.Common.{arith, ◌++◌, ◌∷◌, ◌∙◌, [], take, sym, subst, IfOk}
use Rattle.std.specs.List.{All, flat_map}
use Rattle.affc_system.specs.Systems.{IsRow}
use Rattle.affc_products.specs.Products.{product, tallest}
use Rattle.affc_products.specs.Chosen.{rows_of}
use Rattle.affc_products.specs.Steps.{IsStep}
use Rattle.affc_products.proofs.ProvedLemmas.{fits_behind, step_passed, step_failed, all_passed, proved_count, fails_count, first_and_later}
use Rattle.affc_products.proofs.walk.+factors.Goals as goal

pub check_each-check_behind-requires : goal.check_each-check_behind-requires
check_each-check_behind-requires t c =
    let fit = subst (All (IsRow c.args.columns)) (sym c.loop-rows.invariant.same) c.requires.fit in
    let rows = subst (All (IsRow c.args.columns)) (sym (c.as_slice-rows.ensures ∙ c.rows-item.is)) (c.requires.first c.loop-rows.rows-index c.rows-item.result c.loop-rows-test.true) in
    let room = fits_behind (rows_of c.loop-rows.chosen.items) (rows_of c.args.chosen.now.items) c.args.first.now c.loop-rows.rows-index c.rows-item.result c.as_slice-rows.result.now
    (tallest (c.args.later.now ++ c.args.tails.now ∷ [])) 1024 c.loop-rows.invariant.same c.loop-rows-test.true c.rows-item.is c.as_slice-rows.ensures c.requires.room in
    (omega (arith, c.decreases), (c.requires.few_columns, (fit, (rows, (c.requires.later, (c.requires.tails, room))))))

pub check_each-number_of-requires-clause-left : goal.check_each-number_of-requires-clause-left
check_each-number_of-requires-clause-left t c =
    let before = flat_map (λ u. product c.args.columns (rows_of c.args.chosen.now.items ++ u) (c.args.later.now ++ c.args.tails.now ∷ [])) (take c.loop-rows.rows-index c.args.first.now) in
    let h = proved_count before c.args.proofs.now c.loop-rows.left.now c.loop-rows.invariant.proved in
    omega (arith, h)

pub check_each-number_of-requires-clause-number : goal.check_each-number_of-requires-clause-number
check_each-number_of-requires-clause-number t c =
    let f = rw c.in-Failed.is at c.in_ok-step.ensures.step in
    fails_count (product c.args.columns (rows_of c.loop-rows.chosen.items ++ c.as_slice-rows.result.now) (c.args.later.now ++ c.args.tails.now ∷ [])) c.loop-rows.left.now c.in-Failed.number f

pub check_each-returns-in-Failed-clause-step : goal.check_each-returns-in-Failed-clause-step
check_each-returns-in-Failed-clause-step t c =
    let f = rw c.in-Failed.is at c.in_ok-step.ensures.step in
    step_failed c.args.columns (rows_of c.loop-rows.chosen.items) (rows_of c.args.chosen.now.items) c.args.first.now (c.args.later.now ++ c.args.tails.now ∷ []) c.loop-rows.rows-index c.rows-item.result c.as_slice-rows.result.now
    c.args.proofs.now c.loop-rows.left.now c.in-Failed.number c.number_of.result
    c.loop-rows.invariant.same c.loop-rows-test.true c.rows-item.is c.as_slice-rows.ensures c.loop-rows.invariant.proved f c.number_of.ensures

pub check_each-loop-rows-preserved : goal.check_each-loop-rows-preserved
check_each-loop-rows-preserved t c =
    let f = rw c.in-Passed.is at c.in_ok-step.ensures.step in
    record {
      same = c.in_ok-step.ensures.same ∙ c.loop-rows.invariant.same;
      proved = step_passed c.args.columns (rows_of c.loop-rows.chosen.items) (rows_of c.args.chosen.now.items) c.args.first.now (c.args.later.now ++ c.args.tails.now ∷ []) c.loop-rows.rows-index c.rows-item.result c.as_slice-rows.result.now
          c.args.proofs.now c.loop-rows.left.now c.in-Passed.rest.now
          c.loop-rows.invariant.same c.loop-rows-test.true c.rows-item.is c.as_slice-rows.ensures c.loop-rows.invariant.proved f;
    }

pub check_each-returns-clause-step : goal.check_each-returns-clause-step
check_each-returns-clause-step t c =
    all_passed c.args.columns (rows_of c.args.chosen.now.items) c.args.first.now (c.args.later.now ++ c.args.tails.now ∷ []) c.loop-rows.rows-index c.args.proofs.now c.loop-rows.left.now c.loop-rows-test.false c.loop-rows.invariant.proved

pub check_factors-returns-in-len1-up-clause-step : goal.check_factors-returns-in-len1-up-clause-step
check_factors-returns-in-len1-up-clause-step t c =
    subst (λ fs. IfOk c.check_each.result (λ s. IsStep (product c.args.columns (rows_of c.args.chosen.now.items) fs) c.args.proofs.now s))
    (first_and_later c.args.factors.now c.args.tails.now c.first-item.result c.as_slice.result.now c.in-len1-up.len_at_least c.first-item.is c.as_slice.ensures) c.check_each.ensures.step

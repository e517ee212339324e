use Rattle.std.proofs.Common.{arith, ◌≡◌, ◌++◌, ◌∷◌, ◌∙◌, [], sym, subst, OnOk}
use Rattle.std.specs.List.{All}
use Rattle.affc_system.specs.Systems.{IsRow}
use Rattle.affc_products.specs.Products.{product, tallest}
use Rattle.affc_products.specs.Chosen.{rows_of}
use Rattle.affc_products.proofs.ProvedLemmas.{fits_behind, added_more, all_added, first_and_later}
use Rattle.affc_products.proofs.copies.+systems.Goals as goal

pub add_each-add_behind-requires : goal.add_each-add_behind-requires
add_each-add_behind-requires t c =
    let fit = subst (All (IsRow c.args.columns)) (sym c.loop-rows.invariant.same) c.requires.fit in
    let rows = subst (All (IsRow c.args.columns)) (sym (c.as_slice-rows.ensures ∙ c.rows-item.is)) (c.requires.first c.loop-rows.rows-index c.rows-item.result c.loop-rows-test.true) in
    let room = fits_behind (rows_of c.loop-rows.chosen.items) (rows_of c.args.chosen.now.items) c.args.first.now c.loop-rows.rows-index c.rows-item.result c.as_slice-rows.result.now
    (tallest (c.args.later.now ++ c.args.tails.now ∷ [])) 1024 c.loop-rows.invariant.same c.loop-rows-test.true c.rows-item.is c.as_slice-rows.ensures c.requires.room in
    (omega (arith, c.decreases), (c.requires.few_columns, (fit, (rows, (c.requires.later, (c.requires.tails, room))))))

pub add_each-loop-rows-preserved : goal.add_each-loop-rows-preserved
add_each-loop-rows-preserved t c = record {
  same = c.in_ok-add_behind.ensures.same ∙ c.loop-rows.invariant.same;
  added = added_more c.args.columns (rows_of c.loop-rows.chosen.items) (rows_of c.args.chosen.now.items) c.args.first.now (c.args.later.now ++ c.args.tails.now ∷ []) c.loop-rows.rows-index c.rows-item.result c.as_slice-rows.result.now
      c.args.out.now.items c.loop-rows.out.items c.add_behind.new.out.items
      c.loop-rows.invariant.same c.loop-rows-test.true c.rows-item.is c.as_slice-rows.ensures c.loop-rows.invariant.added c.in_ok-add_behind.ensures.added;
}

pub add_each-returns-clause-added : goal.add_each-returns-clause-added
add_each-returns-clause-added t c =
    all_added c.args.columns (rows_of c.args.chosen.now.items) c.args.first.now (c.args.later.now ++ c.args.tails.now ∷ []) c.loop-rows.rows-index c.args.out.now.items c.loop-rows.out.items c.loop-rows-test.false c.loop-rows.invariant.added

pub add_factors-returns-in-len1-up-clause-added : goal.add_factors-returns-in-len1-up-clause-added
add_factors-returns-in-len1-up-clause-added t c =
    subst (λ fs. OnOk c.add_each.result (c.add_each.new.out.items ≡ c.args.out.now.items ++ product c.args.columns (rows_of c.args.chosen.now.items) fs))
    (first_and_later c.args.factors.now c.args.tails.now c.first-item.result c.as_slice.result.now c.in-len1-up.len_at_least c.first-item.is c.as_slice.ensures) c.add_each.ensures.added

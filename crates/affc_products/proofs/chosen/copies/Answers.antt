use Rattle.std.proofs.Common.{◌++◌, ◌∷◌, [], ◌∙◌, sym, ap, subst}
use Rattle.affc_system.specs.Systems.{Rows, IsRow}
use Rattle.affc_products.proofs.RowsOf.{item_fits, rows_more}
use Rattle.affc_products.proofs.chosen.copies.Goals as goal

pub add_copy-requires-clause-row : goal.add_copy-requires-clause-row
add_copy-requires-clause-row c =
    subst (λ k. IsRow k c.row-item.result.now) (sym c.loop-row.invariant.columns)
    (item_fits c.args.columns c.args.rows.now c.loop-row.row-index c.row-item.result c.requires.fit c.loop-row-test.true c.row-item.is)

pub loop-row-preserved : goal.loop-row-preserved
loop-row-preserved c =
    let e = c.in_ok-add_copy.ensures in
    let m = rows_more c.args.rows.now c.loop-row.row-index c.row-item.result c.loop-row-test.true c.row-item.is in
    record {
      columns = ap (λ (s : Rows). s.columns) e ∙ c.loop-row.invariant.columns;
      rows = ap (λ (s : Rows). s.rows) e ∙ ap (λ rows. rows ++ c.row-item.result.now ∷ []) c.loop-row.invariant.rows ∙ sym m;
    }

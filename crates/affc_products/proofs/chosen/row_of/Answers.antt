use Rattle.std.proofs.Common.{◌<◌, arith, length}
use Rattle.affc_products.proofs.RowsOf.{item_fits, rows_length}
use Rattle.affc_products.proofs.chosen.row_of.Goals as goal

pub returns-clause-fits : goal.returns-clause-fits
returns-clause-fits c =
    let lt : c.args.number < length c.args.rows.now = omega (arith, rows_length c.args.rows.now, c.requires.there) in
    item_fits c.args.columns c.args.rows.now c.args.number c.index-rows-number.result c.requires.fit lt c.index-rows-number.is

use Rattle.std.proofs.Common.{◌∙◌, ap}
use Rattle.affc_products.specs.Chosen.{rows_of}
use Rattle.affc_products.proofs.RowsOf.{rows_take}
use Rattle.affc_products.proofs.walk.cut_back.Goals as goal

pub returns : goal.returns
returns c = ap rows_of c.truncate.ensures.items ∙ rows_take c.args.count c.args.chosen.now.items

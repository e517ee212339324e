use Rattle.std.proofs.Common.{◌∙◌}
use Rattle.std.proofs.lemmas.Int.{to_z-of_z, fits_signed_from_abs}
use Rattle.std.specs.Prelude.{FitsSigned}
use Rattle.std.specs.Int.{w128}
use Rattle.std.proofs.Common.{arith}
use Rattle.affc_farkas.proofs.Entries.{sum_constant}
use Rattle.affc_products.specs.Chosen.{rows_of}
use Rattle.affc_products.proofs.chosen.constant_at.Goals as goal

pub returns-clause-value : goal.returns-clause-value
returns-clause-value c =
    let f : FitsSigned w128 c.sum_at.result = fits_signed_from_abs w128 _ (omega (arith, c.sum_at.ensures.small)) in
    let columns = c.args.columns in
    let rows = rows_of c.args.rows.now in
    simp to_z-of_z (c.sum_at.ensures.value
    ∙ sum_constant columns rows c.args.by.now c.requires.fit c.requires.there)

use Rattle.std.proofs.Common.{arith, rules}
use Rattle.std.specs.Prelude.{FitsSigned, IsTrue}
use Rattle.std.specs.Int.{w128}
use Rattle.std.proofs.lemmas.Int.{to_z-of_z, fits_signed_from_abs}
use Rattle.affc_farkas.proofs.Exact.{leaf_exact}
use Rattle.affc_products.specs.Chosen.{rows_of}
use Rattle.affc_products.proofs.chosen.is_leaf_of.Goals as goal

pub returns : goal.returns
returns c =
    let f : FitsSigned w128 c.constant_at.result = fits_signed_from_abs w128 _ (omega (arith, c.constant_at.ensures.small)) in
    let t : IsTrue c.all_there.result = search rules in
    let k : IsTrue c.cancels.result = search rules in
    simp to_z-of_z (leaf_exact c.args.columns (rows_of c.args.rows.now) c.args.by.now c.constant_at.result c.requires.multipliers
    c.constant_at.ensures.value (c.all_there.ensures.0 t) (c.cancels.ensures.0 k))

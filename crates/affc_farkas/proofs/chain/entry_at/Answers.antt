use Rattle.std.proofs.Common.{arith, ap, ◌∙◌}
use Rattle.std.specs.Prelude.{FitsSigned}
use Rattle.std.specs.Int.{w128}
use Rattle.std.proofs.lemmas.Int.{to_z-of_z, fits_signed_from_abs}
use Rattle.affc_farkas.specs.Multiples.{entry_of}
use Rattle.affc_farkas.proofs.Chains.{base_at}
use Rattle.affc_farkas.proofs.chain.entry_at.Goals as goal

pub returns-then-number-rows-clause-value : goal.returns-then-number-rows-clause-value
returns-then-number-rows-clause-value c =
    let f : FitsSigned w128 c.small_entry.result = fits_signed_from_abs w128 _ (omega (arith, c.small_entry.ensures.small)) in
    let row = base_at c.args.system.now.columns c.args.system.now.rows c.rows-rows.result.now c.args.added.now c.args.number c.index-rows-number.result c.rows-rows.ensures.rows c.if-number-rows.true c.index-rows-number.is in
    simp to_z-of_z (c.small_entry.ensures.value ∙ ap (λ z. entry_of z c.args.column) row)

use Rattle.std.proofs.Common.{arith, ◌≤◌, ◌^◌, ◌+ℤ◌, ◌*ℤ◌, ◌+◌, ◌*◌, ◌∙◌, pos, ap, slice_index_or}
use Rattle.std.specs.Prelude.{unsigned_abs, FitsSigned}
use Rattle.std.specs.Int.{w128}
use Rattle.std.proofs.lemmas.Int.{to_z-of_z, fits_signed_from_abs}
use mir.Val.{to_z}
use Rattle.affc_rows.proofs.IntLemmas.{abs-add}
use Rattle.affc_farkas.specs.Multiples.{entry_of}
use Rattle.affc_farkas.proofs.Entries.{sum-drop, part_step}
use Rattle.affc_products.specs.Chosen.{rows_of}
use Rattle.affc_products.proofs.chosen.sum_at.Goals as goal

pub loop-i-preserved : goal.loop-i-preserved
loop-i-preserved c =
    let fe : FitsSigned w128 c.entry.result = fits_signed_from_abs w128 _ (omega (arith, c.entry.ensures.small)) in
    let fp : FitsSigned w128 c.multiple-part.result = fits_signed_from_abs w128 _ (omega (arith, c.multiple-part.ensures.small)) in
    let few = c.requires.multipliers.few in
    let a = abs-add (to_z w128 c.loop-i.sum-bits) c.multiple-part.result in
    let inv = c.loop-i.invariant in
    let v = simp to_z-of_z at c.multiple-part.ensures.value in
    let u = c.entry.ensures.value ∙ ap (λ r. entry_of r c.args.column) c.row_of-row.ensures.row in
    let d = sum-drop c.args.columns (rows_of c.args.rows.now) c.args.by.now c.loop-i.i c.args.column c.requires.fit c.requires.there c.requires.column_in (omega arith) in
    let n = v ∙ ap (λ z. pos (slice_index_or c.args.by.now c.loop-i.i (0, 0)).1 *ℤ z) u in
    let bound : unsigned_abs (to_z w128 c.loop-i.sum-bits +ℤ c.multiple-part.result) ≤ (c.loop-i.i + 1) * 2 ^ 113 = omega (arith, a, inv.small, c.multiple-part.ensures.small) in
    let fits : FitsSigned w128 (to_z w128 c.loop-i.sum-bits +ℤ c.multiple-part.result) = fits_signed_from_abs w128 _ (omega (arith, bound, few, c.loop-i-test.true)) in
    simp to_z-of_z (record { made = part_step _ _ _ _ _ _ (ap (λ z. to_z w128 c.loop-i.sum-bits +ℤ z) n) d inv.made; small = bound })

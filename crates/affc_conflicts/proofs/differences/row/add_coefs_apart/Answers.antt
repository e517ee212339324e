use Rattle.std.proofs.Common.{arith, rules, ◌∙◌, ◌≡◌, ◌<◌, ◌+ℤ◌, ◌*ℤ◌, slice_index_or, pos, negsuc, length, sym}
use Rattle.std.specs.Prelude.{FitsSigned}
use Rattle.std.specs.Int.{w128}
use Rattle.std.proofs.lemmas.Int.{to_z-of_z}
use Rattle.std.proofs.Math.ListN.{length-set}
use Rattle.affc_rows.specs.Forms.{mixed}
use Rattle.affc_rows.proofs.ValueLemmas.{length-mixed}
use Rattle.affc_conflicts.proofs.differences.InPlace.{added_is, added_fits, put_step, later_head, later_next}
use Rattle.affc_conflicts.proofs.differences.row.add_coefs_apart.Goals as goal

pub overflow_add-sum : goal.overflow_add-sum
overflow_add-sum c =
    let fs : FitsSigned w128 (slice_index_or c.loop-i.sum c.loop-i.i (pos 0)) = search rules in
    let ft : FitsSigned w128 c.times_apart.result = search rules in
    let here : c.loop-i.i < length c.loop-i.sum = omega (arith, c.loop-i-test.true, c.loop-i.invariant.wide, c.requires.x_each) in
    simp to_z-of_z (added_fits (slice_index_or c.loop-i.sum c.loop-i.i (pos 0)) c.times_apart.result (later_head c.loop-i.sum c.loop-i.i here c.loop-i.invariant.later) c.times_apart.ensures.small)

pub loop-i-preserved : goal.loop-i-preserved
loop-i-preserved c =
    let i = c.loop-i.i in
    let sum = c.loop-i.sum in
    let xs = c.args.xs.now in
    let ys = c.args.ys.now in
    let ds = mixed (pos 1) xs (negsuc 0) ys in
    let fs : FitsSigned w128 (slice_index_or sum i (pos 0)) = search rules in
    let ft : FitsSigned w128 c.times_apart.result = search rules in
    let fc : FitsSigned w128 c.args.c = c.ranges.c in
    let fx : FitsSigned w128 (slice_index_or xs i (pos 0)) = search rules in
    let fy : FitsSigned w128 (slice_index_or ys i (pos 0)) = search rules in
    let inv = simp to_z-of_z at c.loop-i.invariant in
    let here : i < length sum = omega (arith, c.loop-i-test.true, c.loop-i.invariant.wide, c.requires.x_each) in
    let x_here : i < length xs = omega (arith, c.loop-i-test.true) in
    let y_here : i < length ys = omega (arith, x_here, c.requires.x_each, c.requires.y_each) in
    let small = later_head sum i here c.loop-i.invariant.later in
    let fv : FitsSigned w128 (slice_index_or sum i (pos 0) +ℤ c.times_apart.result) = added_fits (slice_index_or sum i (pos 0)) c.times_apart.result small c.times_apart.ensures.small in
    let v = slice_index_or sum i (pos 0) +ℤ c.times_apart.result in
    let e : c.times_apart.result ≡ c.args.c *ℤ ((pos 1 *ℤ slice_index_or xs i (pos 0)) +ℤ (negsuc 0 *ℤ slice_index_or ys i (pos 0))) = simp to_z-of_z at c.times_apart.ensures.value in
    let made : v ≡ (pos 1 *ℤ slice_index_or sum i (pos 0)) +ℤ (c.args.c *ℤ slice_index_or ds i (pos 0)) = added_is c.args.c xs ys (slice_index_or sum i (pos 0)) c.times_apart.result i x_here y_here e in
    simp to_z-of_z (record {
      wide = length-set sum i v ∙ c.loop-i.invariant.wide;
      later = later_next sum i v c.loop-i.invariant.later;
      made = put_step c.args.c sum ds i v here (omega (arith, x_here, y_here, length-mixed (pos 1) xs (negsuc 0) ys (c.requires.x_each ∙ sym c.requires.y_each))) made ∙ inv.made;
    })

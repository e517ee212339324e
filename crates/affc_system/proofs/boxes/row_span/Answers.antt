use Rattle.std.proofs.Common.{arith, rules, get_or, pos, true, false}
use Rattle.std.specs.Prelude.{FitsSigned}
use Rattle.std.specs.Int.{w128}
use Rattle.std.proofs.lemmas.Int.{to_z-of_z}
use Rattle.affc_system.proofs.BoxLemmas.{corner_step, box_magnitude_step}
use Rattle.affc_system.proofs.boxes.row_span.Goals as goal

pub loop-i-preserved : goal.loop-i-preserved
loop-i-preserved c =
    let f : FitsSigned w128 (get_or c.args.coefs.now c.loop-i.i (pos 0)) = search rules in
    let least = simp to_z-of_z at c.in-Ok-with_column.ensures.least in
    let greatest = simp to_z-of_z at c.in-Ok-with_column.ensures.greatest in
    let magnitude = simp to_z-of_z at c.in-Ok-with_column.ensures.magnitude in
    record {
      least = corner_step false c.loop-i.i c.args.coefs.now c.args.ranges.now _ _ _ (omega arith) (omega arith) least c.loop-i.invariant.least;
      greatest = corner_step true c.loop-i.i c.args.coefs.now c.args.ranges.now _ _ _ (omega arith) (omega arith) greatest c.loop-i.invariant.greatest;
      magnitude = box_magnitude_step c.loop-i.i c.args.coefs.now c.args.ranges.now _ _ _ (omega arith) (omega arith) magnitude c.loop-i.invariant.magnitude;
    }

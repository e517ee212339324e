use Rattle.std.proofs.Common.{◌≡◌, ◌+◌, ◌+ℤ◌, true, false, drop}
use Rattle.std.specs.Prelude.{unsigned_abs}
use Rattle.affc_rows.specs.Forms.{dot}
use Rattle.affc_system.specs.Boxes.{corner, box_magnitude}
use Rattle.affc_system.proofs.boxes.row_span.Given as goal

abbrev pub invariant-loop-i : goal.invariant-loop-i
invariant-loop-i l = record {
  least : l.span.least +ℤ dot (drop l.i l.coefs) (corner false (drop l.i l.coefs) (drop l.i l.ranges)) ≡ dot l.coefs (corner false l.coefs l.ranges) +ℤ l.fn.constant;
  greatest : l.span.greatest +ℤ dot (drop l.i l.coefs) (corner true (drop l.i l.coefs) (drop l.i l.ranges)) ≡ dot l.coefs (corner true l.coefs l.ranges) +ℤ l.fn.constant;
  magnitude : l.span.magnitude + box_magnitude (drop l.i l.coefs) (drop l.i l.ranges) ≡ unsigned_abs l.fn.constant + box_magnitude l.coefs l.ranges;
}

use Rattle.std.proofs.Common.{◌≡◌, ◌+◌, ◌*◌, ◌^◌, ◌≤◌, ◌+ℤ◌, true, drop}
use Rattle.std.specs.Prelude.{unsigned_abs}
use Rattle.affc_rows.specs.Forms.{dot}
use Rattle.affc_system.specs.Boxes.{corner}
use Rattle.affc_moduli.proofs.tops.sum_over.Given as goal

abbrev pub invariant-loop-i : goal.invariant-loop-i
invariant-loop-i l = record {
  value : l.sum +ℤ dot (drop l.i l.coefs) (corner true (drop l.i l.coefs) (drop l.i l.ranges)) ≡ dot l.coefs (corner true l.coefs l.ranges) +ℤ l.fn.constant;
  within : unsigned_abs l.sum ≤ 2 ^ 60 + l.i * 2 ^ 103;
}

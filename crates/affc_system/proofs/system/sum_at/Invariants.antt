use Rattle.std.proofs.Common.{◌≡◌, ◌≤◌, ◌*◌, ◌^◌, ◌+ℤ◌, drop}
use Rattle.affc_rows.specs.Forms.{dot}
use Rattle.affc_system.proofs.system.sum_at.Given as goal

abbrev pub invariant-loop-i : goal.invariant-loop-i
invariant-loop-i l = record {
  value : l.sum.value +ℤ dot (drop l.i l.coefs) (drop l.i l.point) ≡ dot l.coefs l.point;
  magnitude : l.sum.magnitude ≤ l.i * 2 ^ 103;
}

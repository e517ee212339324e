use Rattle.std.proofs.Common.{◌≡◌, ◌≤◌, ◌*◌, ◌^◌, ◌+ℤ◌, drop}
use Rattle.std.specs.Prelude.{unsigned_abs}
use Rattle.affc_rows.specs.Forms.{dot}
use Rattle.affc_compare.proofs.time.products.Given as goal

abbrev pub invariant-loop-i : goal.invariant-loop-i
invariant-loop-i l = record {
  sum : l.sum +ℤ dot (drop l.i l.coefs) (drop l.i l.point) ≡ dot l.coefs l.point;
  size : unsigned_abs l.sum ≤ l.i * 2 ^ 71;
}

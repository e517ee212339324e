use Rattle.std.proofs.Common.{◌≡◌, ◌+◌, ◌+ℤ◌, drop}
use Rattle.affc_rows.specs.Forms.{dot, dot_magnitude}
use Rattle.affc_rows.proofs.form.add_products.Given as goal

abbrev pub invariant-loop-i : goal.invariant-loop-i
invariant-loop-i l = record {
  sum : l.total.value +ℤ dot (drop l.i l.coefs) (drop l.i l.point) ≡ l.fn.start.value +ℤ dot l.coefs l.point;
  weight : l.total.magnitude + dot_magnitude (drop l.i l.coefs) (drop l.i l.point) ≡ l.fn.start.magnitude + dot_magnitude l.coefs l.point;
}

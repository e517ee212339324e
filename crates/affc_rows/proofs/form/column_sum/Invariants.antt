use Rattle.std.proofs.Common.{◌≡◌, ◌+◌, ◌+ℤ◌, drop}
use Rattle.affc_rows.specs.Forms.{dot, dot_magnitude, column_of}
use Rattle.affc_rows.proofs.form.column_sum.Given as goal

abbrev pub invariant-loop-i : goal.invariant-loop-i
invariant-loop-i l = record {
  sum : l.total.value +ℤ dot (drop l.i l.coefs) (drop l.i (column_of l.column l.images)) ≡ dot l.coefs (column_of l.column l.images);
  weight : l.total.magnitude + dot_magnitude (drop l.i l.coefs) (drop l.i (column_of l.column l.images)) ≡ dot_magnitude l.coefs (column_of l.column l.images);
}

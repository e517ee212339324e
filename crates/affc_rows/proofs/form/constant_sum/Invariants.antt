use Rattle.std.proofs.Common.{◌≡◌, ◌+◌, ◌+ℤ◌, drop}
use Rattle.affc_rows.specs.Forms.{dot, dot_magnitude, constants_of}
use Rattle.affc_rows.proofs.form.constant_sum.Given as goal

abbrev pub invariant-loop-i : goal.invariant-loop-i
invariant-loop-i l = record {
  sum : l.total.value +ℤ dot (drop l.i l.coefs) (drop l.i (constants_of l.images)) ≡ dot l.coefs (constants_of l.images);
  weight : l.total.magnitude + dot_magnitude (drop l.i l.coefs) (drop l.i (constants_of l.images)) ≡ dot_magnitude l.coefs (constants_of l.images);
}

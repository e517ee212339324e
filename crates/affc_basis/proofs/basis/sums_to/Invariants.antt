use Rattle.std.proofs.Common.{◌≡◌, ◌+ℤ◌, ◌-ℤ◌, drop}
use Rattle.affc_rows.specs.Forms.{dot}
use Rattle.affc_basis.specs.Bases.{entries_of, identity_entry, wide_value}
use Rattle.affc_basis.proofs.basis.sums_to.Given as goal

abbrev pub invariant-loop-i : goal.invariant-loop-i
invariant-loop-i l = record {
  sum : wide_value l.sum.high l.sum.low +ℤ dot (drop l.i l.coefs) (drop l.i (entries_of l.column l.forms)) ≡ dot l.coefs (entries_of l.column l.forms) -ℤ identity_entry l.one;
  terms : l.sum.terms ≡ l.i;
}

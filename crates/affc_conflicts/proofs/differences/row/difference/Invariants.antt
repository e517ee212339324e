use Rattle.std.proofs.Common.{◌≡◌, List, ℤ, ◌+ℤ◌, drop, length}
use Rattle.affc_rows.specs.Forms.{value}
use Rattle.affc_conflicts.specs.differences.Differences.{apart, IsSmall}
use Rattle.affc_conflicts.proofs.differences.row.difference.Given as goal

abbrev pub invariant-loop-i : goal.invariant-loop-i
invariant-loop-i l = record {
  small : IsSmall l.columns l.i l.sum;
  value : (z : List ℤ) → length z ≡ l.columns → value l.sum z +ℤ apart (drop l.i l.coefs) (drop l.i l.x) (drop l.i l.y) z ≡ apart l.coefs l.x l.y z;
}

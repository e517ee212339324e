use Rattle.std.proofs.Common.{◌≡◌, ◌<◌, ◌≤◌, length, drop}
use Rattle.std.specs.List.{All}
use Rattle.affc_farkas.specs.Multiples.{multiple_sum}
use Rattle.affc_leaf.proofs.leaves.sum_rows.Given as goal

abbrev pub invariant-loop-left : goal.invariant-loop-left
invariant-loop-left l = record {
  sum : record { coefs = l.sum; constant = l.constant } ≡ multiple_sum l.system.columns l.system.rows (drop l.left l.by);
  there : All (λ p. p.0 < length l.system.rows) (drop l.left l.by);
  within : l.left ≤ length l.by;
}

abbrev pub decreases-loop-left : goal.decreases-loop-left
decreases-loop-left l = l.left

use Rattle.std.proofs.Common.{ℕ, ◌<◌, ◌≤ℤ◌, pos}
use Rattle.affc_farkas.specs.Multiples.{row_at}
use Rattle.affc_leaf.specs.Bounds.{top_value}
use Rattle.affc_leaf.proofs.tops.broken.Given as goal

abbrev pub invariant-loop-i : goal.invariant-loop-i
invariant-loop-i l = (k : ℕ) → k < l.i → pos 0 ≤ℤ top_value (row_at l.system.columns l.system.rows k) l.bounds

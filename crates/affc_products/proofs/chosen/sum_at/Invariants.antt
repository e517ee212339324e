use Rattle.std.proofs.Common.{◌≡◌, ◌≤◌, ◌*◌, ◌^◌, ◌+ℤ◌, drop}
use Rattle.std.specs.Prelude.{unsigned_abs}
use Rattle.affc_farkas.specs.Multiples.{entry_of, multiple_sum}
use Rattle.affc_products.specs.Chosen.{rows_of}
use Rattle.affc_products.proofs.chosen.sum_at.Given as goal

abbrev pub invariant-loop-i : goal.invariant-loop-i
invariant-loop-i l = record {
  made : l.sum +ℤ entry_of (multiple_sum l.columns (rows_of l.rows) (drop l.i l.by)) l.column ≡ entry_of (multiple_sum l.columns (rows_of l.rows) l.by) l.column;
  small : unsigned_abs l.sum ≤ l.i * 2 ^ 113;
}

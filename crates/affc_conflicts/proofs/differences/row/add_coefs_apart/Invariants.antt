use Rattle.std.proofs.Common.{◌≡◌, ◌≤◌, ◌^◌, ◌++◌, take, drop, length, pos, negsuc}
use Rattle.std.specs.Prelude.{unsigned_abs}
use Rattle.std.specs.List.{All}
use Rattle.affc_rows.specs.Forms.{mixed}
use Rattle.affc_conflicts.proofs.differences.row.add_coefs_apart.Given as goal

abbrev pub invariant-loop-i : goal.invariant-loop-i
invariant-loop-i l = record {
  wide : length l.sum ≡ length l.fn.sum;
  later : All (λ v. unsigned_abs v ≤ 2 ^ 40) (drop l.i l.sum);
  made : take l.i l.sum ++ mixed (pos 1) (drop l.i l.sum) l.c (drop l.i (mixed (pos 1) l.xs (negsuc 0) l.ys)) ≡ mixed (pos 1) l.fn.sum l.c (mixed (pos 1) l.xs (negsuc 0) l.ys);
}

use Rattle.std.proofs.Common.{◌≡◌, ◌<◌, ℕ, pos, ◌+ℤ◌, ◌*ℤ◌, length, get_or}
use Rattle.affc_farkas.specs.Multiples.{entry_of}
use Rattle.affc_eliminate.proofs.mixture.mixed_row.Given as goal

abbrev pub invariant-loop-column : goal.invariant-loop-column
invariant-loop-column l = record {
  width : length l.coefs.items ≡ l.column;
  made : (j : ℕ) → j < l.column → pos l.divisor *ℤ get_or l.coefs.items j (pos 0) ≡ (pos l.s *ℤ entry_of l.first j) +ℤ (pos l.t *ℤ entry_of l.second j);
}

use Rattle.std.proofs.Common.{◌≡◌, ◌<◌, ℕ, pos, ◌*ℤ◌, get_or}
use Rattle.affc_eliminate.proofs.project.direction.is_parallel.Given as goal

abbrev pub invariant-loop-j : goal.invariant-loop-j
invariant-loop-j l = (k : ℕ) → k < l.j → get_or l.first k (pos 0) *ℤ l.m ≡ get_or l.second k (pos 0) *ℤ l.n

use Rattle.std.proofs.Common.{◌≡◌, length}
use Rattle.affc_moduli.proofs.reordered.spread.Given as goal

abbrev pub invariant-loop-j : goal.invariant-loop-j
invariant-loop-j l = length l.coefs.items ≡ l.j

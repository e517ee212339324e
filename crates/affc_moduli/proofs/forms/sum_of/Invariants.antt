use Rattle.std.proofs.Common.{◌≡◌, length}
use Rattle.affc_moduli.proofs.forms.sum_of.Given as goal

abbrev pub invariant-loop-j : goal.invariant-loop-j
invariant-loop-j l = length l.sum.coefs ≡ l.parameters

use Rattle.std.proofs.Common.{◌≡◌}
use Rattle.affc_moduli.proofs.reordered.add_element.Given as goal

abbrev pub invariant-loop-j : goal.invariant-loop-j
invariant-loop-j l = l.system.columns ≡ l.fn.system.columns

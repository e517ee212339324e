use Rattle.std.proofs.Common.{◌≡◌}
use Rattle.affc_moduli.proofs.reordered.add_rows.Given as goal

abbrev pub invariant-loop-row : goal.invariant-loop-row
invariant-loop-row l = l.system.columns ≡ l.fn.system.columns

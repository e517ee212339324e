use Rattle.std.proofs.Common.{◌≡◌, length}
use Rattle.affc_moduli.proofs.forms.at_lows.Given as goal

abbrev pub invariant-loop-range : goal.invariant-loop-range
invariant-loop-range l = length l.lows.items ≡ l.range-index

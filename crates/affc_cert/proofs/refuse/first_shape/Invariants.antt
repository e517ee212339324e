use Rattle.std.proofs.Common.{◌≡◌, drop}
use Rattle.affc_cert.specs.Refusals.{first, is_shape}
use Rattle.affc_cert.proofs.refuse.first_shape.Given as goal

abbrev pub invariant-loop-i : goal.invariant-loop-i
invariant-loop-i l = first is_shape l.i (drop l.i l.verdicts) ≡ first is_shape 0 l.verdicts

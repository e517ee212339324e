use Rattle.std.proofs.Common.{◌≡◌, drop}
use Rattle.affc_cert.specs.Refusals.{first, is_number}
use Rattle.affc_cert.proofs.refuse.first_number.Given as goal

abbrev pub invariant-loop-i : goal.invariant-loop-i
invariant-loop-i l = first is_number l.i (drop l.i l.verdicts) ≡ first is_number 0 l.verdicts

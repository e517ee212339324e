use Rattle.std.proofs.Common.{◌≡◌, ◌<◌, ◌^◌, take}
use Rattle.affc_lex.specs.Bytes.{decimal}
use Rattle.affc_lex.proofs.scan.number.Given as goal

abbrev pub invariant-loop-digit : goal.invariant-loop-digit
invariant-loop-digit l = (l.value ≡ decimal (take l.digit-index l.digits)) × (l.value < 2 ^ 64)

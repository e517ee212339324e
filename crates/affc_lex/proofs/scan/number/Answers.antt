use Rattle.std.proofs.Common.{◌+◌, arith}
use Rattle.affc_lex.proofs.Decimals.{decimal_more, decimal_take}
use Rattle.affc_lex.proofs.scan.number.Goals as goal

-- the digits up to this one already write a number of 2^64 or more
pub returns-in-None : goal.returns-in-None
returns-in-None c =
    let ds = c.args.digits.now in
    let i = c.loop-digit.digit-index in
    λ small. c.in-None.ensures (omega (arith, decimal_more ds i c.loop-digit-test.true, decimal_take ds (i + 1), c.loop-digit.invariant.0))

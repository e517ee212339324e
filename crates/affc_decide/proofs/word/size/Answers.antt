use Rattle.std.proofs.Common.{get_or, arith}
use Rattle.std.proofs.lemmas.Str.Parse.{digit_from_value}
use Rattle.affc_decide.proofs.Numbers.{no_digit, too_large}
use Rattle.affc_decide.proofs.word.size.Goals as goal
use Rattle.affc_decide.proofs.word.size.Goals.{then-not-is_ascii_digit-via-then-not-is_ascii_digit, then-not-is_ascii_digit-via-else-not-is_ascii_digit+then-size}

pub returns-then-not-is_ascii_digit-clause-none : goal.returns-then-not-is_ascii_digit-clause-none
returns-then-not-is_ascii_digit-clause-none c numeral =
    let l = c.loop-digit in
    let ds = c.args.digits.now in
    elim c.then-not-is_ascii_digit.branch [
      | then-not-is_ascii_digit-via-then-not-is_ascii_digit w ↦
          let other = w.if-not-is_ascii_digit.ensures.cases in
          absurd (no_digit ds ds l.digit-index l.size l.invariant.0 c.loop-digit-test.true (λ digit. let within = digit_from_value (get_or ds l.digit-index 0) digit in omega (arith, other, within)) numeral)
      | then-not-is_ascii_digit-via-else-not-is_ascii_digit+then-size w ↦ too_large ds ds l.digit-index l.size 9223372036854775808 l.invariant.0 c.loop-digit-test.true (omega (arith, w.if-size.true))
    ]

use Rattle.std.proofs.Common.{◌≡◌, sym, subst, true, arith, ◌∙◌}
use Rattle.std.specs.List.{list_all}
use Rattle.affc_lex.specs.Bytes.{is_digit}
use Rattle.affc_lex.proofs.Runs.{run_within, run_passes}
use Rattle.affc_interp.proofs.Numerals.{none_plain, none_large, natural_here, front_is, back_is}
use Rattle.affc_interp.proofs.line.natural.Goals as goal

pub split_at-requires : goal.split_at-requires
split_at-requires c = omega (arith, c.digits_length.ensures, run_within is_digit c.args.text.now)

pub returns-then-not-is_plain : goal.returns-then-not-is_plain
returns-then-not-is_plain c = none_plain c.args.text.now c.split_at.result.0.now (front_is c.args.text.now c.digits_length.result c.split_at.result.0.now c.digits_length.ensures c.split_at.ensures.front) (sym c.is_plain.ensures ∙ c.if-not-is_plain.true)

pub number-requires : goal.number-requires
number-requires c = subst (λ l. list_all is_digit l ≡ true) (sym (front_is c.args.text.now c.digits_length.result c.split_at.result.0.now c.digits_length.ensures c.split_at.ensures.front)) (run_passes is_digit c.args.text.now)

pub returns-in-Some : goal.returns-in-Some
returns-in-Some c =
    natural_here c.args.text.now c.split_at.result.0.now c.split_at.result.1.now c.in-Some.value (front_is c.args.text.now c.digits_length.result c.split_at.result.0.now c.digits_length.ensures c.split_at.ensures.front)
    (back_is c.args.text.now c.digits_length.result c.split_at.result.1.now c.digits_length.ensures c.split_at.ensures.back) (sym c.is_plain.ensures ∙ c.if-not-is_plain.false) c.in-Some.ensures.0 c.in-Some.ensures.1

pub returns-in-None : goal.returns-in-None
returns-in-None c = none_large c.args.text.now c.split_at.result.0.now (front_is c.args.text.now c.digits_length.result c.split_at.result.0.now c.digits_length.ensures c.split_at.ensures.front) c.in-None.ensures

use Rattle.std.proofs.Common.{sym, ap, ◌∙◌}
use Rattle.affc_lex.specs.Bytes.{decimal}
use Rattle.affc_syntax.specs.draft.Numbers.{number_of}
use Rattle.affc_parse.specs.Shown.{are_bytes}
use Rattle.affc_parse.proofs.Digits.{value_parts, digits_taken}
use Rattle.affc_parse.proofs.symbols.value_of.Goals as goal

pub decimal-requires-in-Value : goal.decimal-requires-in-Value
decimal-requires-in-Value c = value_parts c.args.bytes.now c.digits_length.result c.digits_length.ensures (ap (λ k. are_bytes k c.args.bytes.now) (sym c.in-Value.is) ∙ c.requires)

pub returns-in-Value : goal.returns-in-Value
returns-in-Value c =
    c.decimal-in-Value.ensures
    ∙ ap decimal (digits_taken c.args.bytes.now c.digits_length.result c.digits_length.ensures)
    ∙ ap (λ k. number_of k c.args.bytes.now) (sym c.in-Value.is)

-- The numbers that tokens write.
use Rattle.std.specs.Prelude.{ℕ, List}
use Rattle.affc_lex.specs.declared.token.Kind.{Kind}
use Rattle.affc_lex.specs.declared.token.Kind.TheVariants.{Number, Value}
use Rattle.affc_lex.specs.Bytes.{decimal}
use Rattle.affc_lex.specs.Pieces.{leading_digits}

abbrev pub number_of : Kind → List ℕ → ℕ
number_of Number bytes = decimal bytes
number_of Value bytes = decimal (leading_digits bytes)
number_of _ bytes = 0

-- Tokens without their places.
use Rattle.std.specs.Prelude.{ℕ, List}
use Rattle.affc_lex.specs.declared.token.Kind.{Kind}
use Rattle.affc_lex.specs.declared.token.Kind.TheVariants.{Word, Number, Mark}
use Rattle.affc_lex.specs.Lexes.{Lexeme}

-- a token without its place
pub record Symbol : Type 0 where
  pub kind : Kind
  pub bytes : List ℕ

abbrev pub symbol : Lexeme → Symbol
symbol token = record { kind = token.kind; bytes = token.bytes }

abbrev pub word : List ℕ → Symbol
word bytes = record { kind = Word; bytes = bytes }

abbrev pub number : List ℕ → Symbol
number digits = record { kind = Number; bytes = digits }

abbrev pub mark : List ℕ → Symbol
mark bytes = record { kind = Mark; bytes = bytes }

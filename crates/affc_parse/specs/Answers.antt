-- What is answered of a text: its program, or the first of the rules that it breaks.
use Rattle.std.specs.Prelude.{◌≡◌, ◌⊎◌, ℕ, Bool, true, false, List, [], length, Some, Result, Ok, Err}
use Rattle.affc_lex.specs.declared.token.LexFault.{LexFault}
use Rattle.affc_lex.specs.declared.token.LexFault.TheVariants as lex
use Rattle.affc_lex.specs.Bytes.{contains}
use Rattle.affc_lex.specs.Pieces.{prelude}
use Rattle.affc_lex.specs.Lexes.{Lexeme, Lexes}
use Rattle.affc_lex.specs.Faults.{FirstFault}
use Rattle.affc_ast.specs.declared.tree.Program.{Program}
use Rattle.affc_grammar.specs.declared.fault.LimitName.{LimitName}
use Rattle.affc_grammar.specs.declared.fault.LimitName.TheVariants.{Size}
use Rattle.affc_grammar.specs.Grammar.{Symbol, Text, text_symbols, StopsAt}
use Rattle.affc_grammar.specs.Draft.{text_draft}
use Rattle.affc_grammar.specs.Limits.{Limits, limits_of, least, passes, shape_passed}
use Rattle.affc_grammar.specs.Reads.{Reads, symbols, has_prelude, place_of, TextFault, name_refused, not_affine, limit_passed, tree_of}
use Rattle.affc_parse.specs.declared.fault.ParseFault.{ParseFault}
use Rattle.affc_parse.specs.declared.fault.ParseFault.TheVariants.{Memory, BadByte, OpenComment, LongNumber, Syntax, Name, NotAffine, Limit}

-- whether the text has more bytes than it may
abbrev pub is_long : List ℕ → Bool
is_long text = passes (limits_of (contains prelude text)).size (length text)

-- the limits of a text with these tokens
abbrev pub limits_with : List Lexeme → Limits
limits_with tokens = limits_of (has_prelude (symbols tokens))

-- The text isn't too long, and these are its tokens.
pub record HasTokens (text : List ℕ) (tokens : List Lexeme) : Type 0 where
  pub size : is_long text ≡ false
  pub lexes : Lexes text tokens

-- Their shape keeps the limits, too.
pub record HasShape (text : List ℕ) (tokens : List Lexeme) : Type 0 where
  pub has_tokens : HasTokens text tokens
  pub shape : shape_passed (limits_with tokens) (symbols tokens) ≡ []

-- The text isn't too long, and this is its first fault.
pub record HasFault (text : List ℕ) (fault : LexFault) : Type 0 where
  pub size : is_long text ≡ false
  pub first : FirstFault text fault

-- The first limit on the shape that is passed.
pub record PassesShape (text : List ℕ) (place : ℕ) (which : LimitName) : Type 0 where
  pub tokens : List Lexeme
  pub has_tokens : HasTokens text tokens
  pub at : ℕ
  pub passed : least (shape_passed (limits_with tokens) (symbols tokens)) ≡ Some (record { at = at; which = which })
  pub its_place : place ≡ place_of text tokens at

-- No text of the grammar goes on at the place.
pub record Stops (text : List ℕ) (place : ℕ) : Type 0 where
  pub tokens : List Lexeme
  pub has_shape : HasShape text tokens
  pub rest : List Symbol
  pub stops : StopsAt (symbols tokens) rest
  pub its_place : place ≡ place_of text tokens (length stops.before)

-- The text is one of the grammar, and this is wrong with it, at the token of this number.
pub record IsWrong (text : List ℕ) (place : ℕ) (at : ℕ) (fault : TextFault) : Type 0 where
  pub tokens : List Lexeme
  pub has_shape : HasShape text tokens
  pub written : Text
  pub spelled : symbols tokens ≡ text_symbols written
  pub fault_is : tree_of (limits_with tokens) (text_draft written) ≡ Err fault
  pub its_place : place ≡ place_of text tokens at

abbrev pub IsLong : List ℕ → (place : ℕ) → LimitName → Type 0
IsLong text place which = (is_long text ≡ true) × (place ≡ 1048576) × (which ≡ Size)

-- Want of memory may come at any text.
abbrev pub Answers : List ℕ → Result Program ParseFault → Type 0
Answers text (Ok tree) = Reads text tree
Answers text (Err Memory) = Unit {0}
Answers text (Err (BadByte at)) = HasFault text (lex.BadByte at)
Answers text (Err (OpenComment at)) = HasFault text (lex.OpenComment at)
Answers text (Err (LongNumber at)) = HasFault text (lex.LongNumber at)
Answers text (Err (Syntax place)) = Stops text place
Answers text (Err (Name place why)) = (at : ℕ) × IsWrong text place at (name_refused (record { at = at; why = why }))
Answers text (Err (NotAffine place)) = (at : ℕ) × IsWrong text place at (not_affine at)
Answers text (Err (Limit place which)) = IsLong text place which ⊎ (PassesShape text place which ⊎ ((at : ℕ) × IsWrong text place at (limit_passed (record { at = at; which = which }))))

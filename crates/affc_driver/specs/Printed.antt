-- Texts with the prelude, and where it stands.
use Rattle.std.specs.Prelude.{◌≡◌, ℕ, Bool, true, List, Some, slice_get}
use Rattle.std.specs.List.{list_any}
use Rattle.affc_lex.specs.declared.token.Kind.TheVariants.{Prelude}
use Rattle.affc_lex.specs.declared.token.Token.{Token}
use Rattle.affc_ast.specs.declared.tree.Program.{Program}
use Rattle.affc_grammar.specs.Reads.{Reads, is_prelude}

-- the source reads as a program with the prelude
pub record ReadsPrinted (source : List ℕ) : Type 0 where
  pub tree : Program
  pub reads : Reads source tree
  pub with_prelude : tree.prelude ≡ true

-- whether one of these tokens is the prelude
abbrev pub holds_prelude : List Token → Bool
holds_prelude tokens = list_any (λ t. is_prelude t.kind) tokens

-- the prelude stands at the place, among these tokens
pub record HasPrelude (tokens : List Token) (place : ℕ) : Type 0 where
  pub number : ℕ
  pub token : Token
  pub is_in : slice_get tokens number ≡ Some token
  pub kind : token.kind ≡ Prelude
  pub its_place : place ≡ token.start

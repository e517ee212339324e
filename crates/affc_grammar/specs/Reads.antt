-- When a text reads as a program.
use Rattle.std.specs.Prelude.{◌≡◌, ℕ, zero, suc, Bool, true, false, ◌&&◌, IsTrue, List, [], ◌∷◌, length, map, Option, Some, None, Result, Ok, Err}
use Rattle.std.specs.List.{list_any, list_all}
use Rattle.affc_lex.specs.declared.token.Kind.{Kind}
use Rattle.affc_lex.specs.declared.token.Kind.TheVariants.{Word, Number, Value, Prelude}
use Rattle.affc_lex.specs.Bytes.{contains}
use Rattle.affc_lex.specs.Pieces.{prelude, is_word, is_number, is_value, is_small, leading_digits}
use Rattle.affc_lex.specs.Lexes.{Lexeme, Lexes}
use Rattle.affc_ast.specs.declared.tree.Program.{Program}
use Rattle.affc_grammar.specs.Grammar.{Symbol, symbol, Text, text_symbols}
use Rattle.affc_grammar.specs.Draft.{TextDraft, text_draft}
use Rattle.affc_grammar.specs.Names.{Refusal, program_tree}
use Rattle.affc_grammar.specs.Limits.{Limits, limits_of, wide_limits, Passed, least, passes, shape_passed, products_of_names, passed}
use Rattle.affc_grammar.specs.Printed.{printed}

abbrev pub symbols : List Lexeme → List Symbol
symbols tokens = map symbol tokens

abbrev pub is_prelude : Kind → Bool
is_prelude Prelude = true
is_prelude _ = false

-- whether one of them is the prelude
abbrev pub has_prelude : List Symbol → Bool
has_prelude ss = list_any (λ s. is_prelude s.kind) ss

-- the place of the token of this number; behind the last token, the end of the text
abbrev pub place_of : List ℕ → List Lexeme → ℕ → ℕ
place_of text [] n = length text
place_of text (t ∷ ts) zero = t.start
place_of text (t ∷ ts) (suc n) = place_of text ts n

-- What is wrong with a text of the grammar.
pub data TextFault : Type 0 where
  name_refused : Refusal → TextFault
  -- the number of the "*" of a product both of whose sides hold names
  not_affine : ℕ → TextFault
  limit_passed : Passed → TextFault

abbrev pub within_limits : Option Passed → Program → Result Program TextFault
within_limits None tree = Ok tree
within_limits (Some p) tree = Err (limit_passed p)

abbrev pub affine : List ℕ → Result Program TextFault → Result Program TextFault
affine [] next = next
affine (at ∷ others) next = Err (not_affine at)

abbrev pub named : Result Program Refusal → (Program → Result Program TextFault) → Result Program TextFault
named (Ok tree) next = next tree
named (Err r) next = Err (name_refused r)

-- the tree of a text of the grammar, or what is wrong with it: names before products before limits, and of each the first
abbrev pub tree_of : Limits → TextDraft → Result Program TextFault
tree_of limits c = named (program_tree c) (λ tree. affine (products_of_names c) (within_limits (least (passed limits c)) tree))

-- The symbols are those of a text of the grammar that keeps every rule, and this is its tree.
pub record Derives (limits : Limits) (ss : List Symbol) (tree : Program) : Type 0 where
  pub shape : shape_passed limits ss ≡ []
  pub written : Text
  pub spelled : ss ≡ text_symbols written
  pub its_tree : tree_of limits (text_draft written) ≡ Ok tree

-- The text reads as the program, where a text has the limits that are given for one with the prelude or without it.
pub record ReadsBy (limits_for : (has_prelude : Bool) → Limits) (text : List ℕ) (tree : Program) : Type 0 where
  pub size : passes (limits_for (contains prelude text)).size (length text) ≡ false
  pub tokens : List Lexeme
  pub lexes : Lexes text tokens
  pub derives : Derives (limits_for (has_prelude (symbols tokens))) (symbols tokens) tree

abbrev pub Reads : List ℕ → Program → Type 0
Reads = ReadsBy limits_of

-- the same with the wide limits for every text
abbrev pub ReadsWide : List ℕ → Program → Type 0
ReadsWide = ReadsBy (λ _. wide_limits)

-- whether a token of this kind can have these bytes
abbrev pub can_have : Kind → List ℕ → Bool
can_have Word bytes = is_word bytes
can_have Number bytes = is_number bytes && is_small bytes
can_have Value bytes = is_value bytes && is_small (leading_digits bytes)
can_have _ bytes = true

-- Some tokens are those of a text of the grammar that keeps the rules on names and products and has this tree, and the text that is printed keeps the
-- wide limits.
pub record WellNamed (tree : Program) : Type 0 where
  pub written : Text
  pub tokens : IsTrue (list_all (λ s. can_have s.kind s.bytes) (text_symbols written))
  pub its_tree : program_tree (text_draft written) ≡ Ok tree
  pub its_products : products_of_names (text_draft written) ≡ []
  pub printed_shape : shape_passed wide_limits (text_symbols (printed tree)) ≡ []
  pub printed_limits : passed wide_limits (text_draft (printed tree)) ≡ []

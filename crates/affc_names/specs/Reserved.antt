-- The tests of reserved names, in parts.
use Rattle.std.specs.Prelude.{ℕ, Bool, List, nat_eq}
use Rattle.std.specs.List.{list_any, starts_with}
use Rattle.std.specs.Str.{bytes_eq}
use denote.Ref.{Bor}
use Rattle.affc_lex.specs.Bytes.{same, begins}
use Rattle.affc_ast.specs.Names.{keywords, reserved_beginnings}

unfoldable pub is_among : List (Bor (List ℕ)) → List ℕ → Bool
is_among words name = list_any (λ word. bytes_eq word.now name) words

unfoldable pub begins_with_one : List (Bor (List ℕ)) → List ℕ → Bool
begins_with_one words name = list_any (λ word. starts_with nat_eq name word.now) words

unfoldable pub is_keyword : List ℕ → Bool
is_keyword name = list_any (λ keyword. same keyword name) keywords

unfoldable pub begins_reserved : List ℕ → Bool
begins_reserved name = list_any (λ beginning. begins beginning name) reserved_beginnings

-- When a program's own printed text keeps the rules on names, products and limits.
use Rattle.std.specs.Prelude.{◌≡◌, [], IsTrue, Ok}
use Rattle.std.specs.List.{list_all}
use Rattle.affc_ast.specs.declared.tree.Program.{Program}
use Rattle.affc_grammar.specs.Grammar.{text_symbols}
use Rattle.affc_grammar.specs.Draft.{text_draft}
use Rattle.affc_grammar.specs.Names.{program_tree}
use Rattle.affc_grammar.specs.Limits.{wide_limits, passed, products_of_names, shape_passed}
use Rattle.affc_grammar.specs.Printed.{printed}
use Rattle.affc_grammar.specs.Reads.{can_have}

-- The printed text's tokens can stand in a text, its tree is the program, and it keeps the wide limits.
pub record KeepsRules (p : Program) : Type 0 where
  pub tokens : IsTrue (list_all (λ s. can_have s.kind s.bytes) (text_symbols (printed p)))
  pub its_tree : program_tree (text_draft (printed p)) ≡ Ok p
  pub its_products : products_of_names (text_draft (printed p)) ≡ []
  pub shape : shape_passed wide_limits (text_symbols (printed p)) ≡ []
  pub limits : passed wide_limits (text_draft (printed p)) ≡ []

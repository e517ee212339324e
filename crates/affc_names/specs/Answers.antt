-- What is answered of the names of a draft.
use Rattle.std.specs.Prelude.{◌≡◌, IsOk, List, [], Result, Ok, Err}
use Rattle.affc_ast.specs.declared.tree.Program.{Program}
use Rattle.affc_grammar.specs.Draft.{TextDraft}
use Rattle.affc_ast.specs.declared.tree.Param.{Param}
use Rattle.affc_grammar.specs.Names.{Checked, Scope, ◌>>=◌, allowed, function_why, pragmas_tree, temps_tree, stmts_tree, program_tree}
use Rattle.affc_names.specs.Stored as stored
use Rattle.affc_names.specs.declared.fault.NameFault.{NameFault}
use Rattle.affc_names.specs.declared.fault.NameFault.TheVariants.{Memory, Refused}

-- No name is refused, and this is the tree, with each number as a tree can hold it: of a draft whose numbers it can all hold, the draft's own.
pub record IsNamed (c : TextDraft) (tree : Program) : Type 0 where
  pub named : IsOk (program_tree c)
  pub its_tree : program_tree (stored.text c) ≡ Ok tree

abbrev pub Answers : Result Program NameFault → TextDraft → Type 0
Answers (Ok tree) c = IsNamed c tree
Answers (Err Memory) c = Unit {0}
Answers (Err (Refused at why)) c = program_tree c ≡ Err (record { at = at; why = why })

-- the tree of a text whose parameters are visible here, given theirs
abbrev pub tree_behind : Scope → Checked (List Param) → TextDraft → Checked Program
tree_behind inside params c =
    pragmas_tree inside [] c.pragmas >>= (λ conditions.
    allowed (function_why inside c.function.name) c.function.at (
    params >>= (λ xs.
    temps_tree inside c.temps >>= (λ temps.
    stmts_tree temps.1 c.body >>= (λ body.
    Ok (record { name = c.function.name; params = xs; context = conditions; temps = temps.0; body = body; prelude = c.has_prelude }))))))

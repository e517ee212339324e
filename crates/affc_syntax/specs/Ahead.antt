-- What stands first among tokens.
use Rattle.std.specs.Prelude.{ℕ, Bool, ◌||◌, List, [], ◌∷◌, Option, Some, None, if◌then◌else◌}
use Rattle.affc_lex.specs.Bytes.{decimal}
use Rattle.affc_ast.specs.declared.tree.Rel.{Rel}
use Rattle.affc_ast.specs.Joined.{is_ordered}
use Rattle.affc_grammar.specs.Grammar.{Symbol, is_mark_kind, is_divisor}
use Rattle.affc_grammar.specs.Reading.{of_kind, choose, rels, is_number_kind}

abbrev pub with_rest : {K : Type 0} → List Symbol → Option K → Option (K × List Symbol)
with_rest ts None = None
with_rest ts (Some k) = Some (k, ts)

-- what the test gives at the first token, and the tokens behind it
abbrev pub past : {K : Type 0} → (Symbol → Option K) → List Symbol → Option (K × List Symbol)
past test [] = None
past test (x ∷ ts) = with_rest ts (test x)

abbrev pub number_value : Symbol → Option ℕ
number_value = of_kind is_number_kind (λ bytes. Some (decimal bytes))

-- what a mark compares by, where it may
abbrev pub if_told : (wide : Bool) → Option Rel → Option Rel
if_told wide None = None
if_told wide (Some rel) = if wide || is_ordered rel then Some rel else None

abbrev pub relation_value : (wide : Bool) → Symbol → Option Rel
relation_value wide = of_kind is_mark_kind (λ bytes. if_told wide (choose rels bytes))

-- of a Number of at least 1
abbrev pub divisor_value : Symbol → Option ℕ
divisor_value = of_kind is_number_kind (λ bytes. if is_divisor bytes then Some (decimal bytes) else None)

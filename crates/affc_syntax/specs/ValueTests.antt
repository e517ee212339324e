-- What stands first among the tokens of a value.
use Rattle.std.specs.Prelude.{ℕ, ◌==◌, Option, Some, None, if◌then◌else◌}
use Rattle.affc_ast.specs.declared.tree.Op.{Op}
use Rattle.affc_lex.specs.Bytes.{decimal}
use Rattle.affc_lex.specs.Pieces.{leading_digits}
use Rattle.affc_grammar.specs.Grammar.{Symbol, is_shift, is_mark_kind, level_of}
use Rattle.affc_grammar.specs.Reading.{of_kind, is_number_kind, is_value_kind, choose, ops}

abbrev pub constant_value : Symbol → Option ℕ
constant_value = of_kind is_value_kind (λ bytes. Some (decimal (leading_digits bytes)))

-- of a Number from 0 to 63
abbrev pub shift_value : Symbol → Option ℕ
shift_value = of_kind is_number_kind (λ bytes. if is_shift bytes then Some (decimal bytes) else None)

abbrev pub only_at : ℕ → Option Op → Option Op
only_at n None = None
only_at n (Some op) = if level_of op == n then Some op else None

-- an operator of level n
abbrev pub op_at : ℕ → Symbol → Option Op
op_at n = of_kind is_mark_kind (λ bytes. only_at n (choose ops bytes))

-- What is written for a value where it stands.
use Rattle.std.specs.Prelude.{ℕ, Bool, List, codes, decimal as digits_of, if◌then◌else◌}
use Rattle.affc_ast.specs.declared.tree.Op.{Op}
use Rattle.affc_ast.specs.declared.tree.Op.TheVariants as op
use Rattle.affc_grammar.specs.Grammar.{is_shift, op_mark, shift_mark}
use Rattle.affc_grammar.specs.Printed.{ValueWritten}
use Rattle.affc_cprint.specs.declared.brackets.Level.{Level}
use Rattle.affc_cprint.specs.declared.brackets.Level.TheVariants.{Primary, Product, Sum, Shifted, And, Xor, Or}
use Rattle.affc_cprint.specs.Layout.{◌then◌, value_layout}

abbrev pub value_at : {prelude : Bool} → Level → ValueWritten prelude → List ℕ
value_at Primary w = value_layout w.level_0
value_at Product w = value_layout w.level_1
value_at Sum w = value_layout w.level_2
value_at Shifted w = value_layout w.level_3
value_at And w = value_layout w.level_4
value_at Xor w = value_layout w.level_5
value_at Or w = value_layout w.level_6

abbrev pub number_of : Level → ℕ
number_of Primary = 0
number_of Product = 1
number_of Sum = 2
number_of Shifted = 3
number_of And = 4
number_of Xor = 5
number_of Or = 6

-- the levels of an operator's operands
abbrev pub op_left : Op → Level
op_left op.Mul = Product
op_left op.Add = Sum
op_left op.Sub = Sum
op_left op.And = And
op_left op.Xor = Xor
op_left op.Or = Or

abbrev pub op_right : Op → Level
op_right op.Mul = Primary
op_right op.Add = Product
op_right op.Sub = Product
op_right op.And = Shifted
op_right op.Xor = And
op_right op.Or = Xor

-- a shift past 63 is written as one by 0
abbrev pub amount_layout : ℕ → List ℕ
amount_layout by = if is_shift (digits_of by) then digits_of by else codes "0"

-- ---- One operator, by what is written of its operands

abbrev pub binary_layout : {prelude : Bool} → Op → ValueWritten prelude → ValueWritten prelude → List ℕ
binary_layout op a b = value_at (op_left op) a then codes " " then op_mark op then codes " " then value_at (op_right op) b

abbrev pub shift_layout : {prelude : Bool} → (left : Bool) → ValueWritten prelude → ℕ → List ℕ
shift_layout left a by = value_at Shifted a then codes " " then shift_mark left then codes " " then amount_layout by

-- What is written for an expression where it stands.
use Rattle.std.specs.Prelude.{ℕ, Bool, true, false, List, [], codes, ℤ, nat_abs, if◌then◌else◌, decimal as digits_of}
use Rattle.affc_grammar.specs.Grammar.{is_divisor}
use Rattle.affc_grammar.specs.Printed.{IxWritten}
use Rattle.affc_cprint.specs.declared.brackets.Place.{Place}
use Rattle.affc_cprint.specs.declared.brackets.Place.TheVariants.{Whole, RightOfSum, LeftOfProduct, RightOfProduct, UnderMinus}
use Rattle.affc_cprint.specs.Layout.{◌then◌, ix_layout, term_layout, factor_layout, atom_layout}

abbrev pub ix_at : {prelude : Bool} → Place → IxWritten prelude → List ℕ
ix_at Whole w = ix_layout w.whole
ix_at RightOfSum w = term_layout w.right_of_sum
ix_at LeftOfProduct w = term_layout w.left_of_product
ix_at RightOfProduct w = factor_layout w.right_of_product
ix_at UnderMinus w = atom_layout w.under_minus

-- a bracket, where it is wanted
abbrev pub opened : Bool → List ℕ
opened true = codes "("
opened false = []

abbrev pub closed : Bool → List ℕ
closed true = codes ")"
closed false = []

abbrev pub bracketed : Bool → List ℕ → List ℕ
bracketed b text = opened b then text then closed b

abbrev pub is_inside : Place → Bool
is_inside Whole = false
is_inside _ = true

abbrev pub is_factor : Place → Bool
is_factor RightOfProduct = true
is_factor UnderMinus = true
is_factor _ = false

abbrev pub is_negated : Place → Bool
is_negated UnderMinus = true
is_negated _ = false

-- whether a quotient by this number is written
abbrev pub divides : (prelude : Bool) → ℤ → Bool
divides true by = is_divisor (digits_of (nat_abs by))
divides false by = false

-- ---- One operator, by what is written of its operands

abbrev pub negated_layout : {prelude : Bool} → IxWritten prelude → List ℕ
negated_layout a = codes "-" then ix_at UnderMinus a

abbrev pub sum_layout : {prelude : Bool} → IxWritten prelude → (mark : List ℕ) → IxWritten prelude → List ℕ
sum_layout a mark b = ix_at Whole a then mark then ix_at RightOfSum b

abbrev pub product_layout : {prelude : Bool} → IxWritten prelude → IxWritten prelude → List ℕ
product_layout a b = ix_at LeftOfProduct a then codes " * " then ix_at RightOfProduct b

-- with its bracket the word opens the call
abbrev pub called : (prelude wanted : Bool) → (word : List ℕ) → IxWritten prelude → IxWritten prelude → List ℕ
called prelude wanted word a b = if prelude then bracketed wanted (word then ix_at Whole a then codes ", " then ix_at Whole b then codes ")") else codes "0"

abbrev pub quotient_layout : {prelude : Bool} → (is_written wanted : Bool) → (word : List ℕ) → IxWritten prelude → ℤ → List ℕ
quotient_layout is_written wanted word a by = if is_written then bracketed wanted (word then ix_at Whole a then codes ", " then digits_of (nat_abs by) then codes ")") else codes "0"

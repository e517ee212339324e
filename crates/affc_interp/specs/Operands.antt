-- Operators in a row: each stands in the first operand of the next.
use Rattle.std.specs.Prelude.{ℕ, zero, suc, ◌+◌, ◌<◌}
use Rattle.affc_ast.specs.declared.tree.Ix.{Ix, out-Ix}
use Rattle.affc_ast.specs.declared.tree.Ix.TheOpen.{Ix-F, Lit, Name, Neg, Add, Sub, Mul, Min, Max, Floord, Ceild, Mod}
use Rattle.affc_ast.specs.declared.tree.Val.{Val, out-Val}
use Rattle.affc_ast.specs.declared.tree.Val.TheOpen.{Val-F, Load, Const, Cast, Not, Bin, Shift}
use Rattle.affc_ast.specs.Recursion.{by_ix, by_val}
use Rattle.affc_interp.specs.declared.fault.Fault.{Fault}
use Rattle.affc_interp.specs.declared.fault.Fault.TheVariants as f

-- what stands so many first operands down
abbrev pub below : {A : Type 0} → (A → A) → ℕ → A → A
below first zero e = e
below first (suc n) e = below first n (first e)

-- ---- Expressions

abbrev pub first_in : Ix → Ix-F Ix → Ix
first_in e (Lit n) = e
first_in e (Name x) = e
first_in e (Neg a) = a
first_in e (Add a b) = a
first_in e (Sub a b) = a
first_in e (Mul a b) = a
first_in e (Min a b) = a
first_in e (Max a b) = a
first_in e (Floord a n) = a
first_in e (Ceild a n) = a
first_in e (Mod a b) = a

-- the first operand of the outermost operator; without an operator the expression itself
abbrev pub first_operand : Ix → Ix
first_operand e = first_in e (out-Ix e)

abbrev pub row_step : Ix-F ℕ → ℕ
row_step (Lit n) = 0
row_step (Name x) = 0
row_step (Neg a) = suc a
row_step (Add a b) = suc a
row_step (Sub a b) = suc a
row_step (Mul a b) = suc a
row_step (Min a b) = suc a
row_step (Max a b) = suc a
row_step (Floord a n) = suc a
row_step (Ceild a n) = suc a
row_step (Mod a b) = suc a

-- how many operators stand in a row
abbrev pub operators : Ix → ℕ
operators = by_ix row_step

-- ---- Values

abbrev pub first_value_in : Val → Val-F Val → Val
first_value_in v (Load array subs) = v
first_value_in v (Const n) = v
first_value_in v (Cast e) = v
first_value_in v (Not a) = a
first_value_in v (Bin op a b) = a
first_value_in v (Shift left a by) = a

abbrev pub first_value : Val → Val
first_value v = first_value_in v (out-Val v)

abbrev pub value_row_step : Val-F ℕ → ℕ
value_row_step (Load array subs) = 0
value_row_step (Const n) = 0
value_row_step (Cast e) = 0
value_row_step (Not a) = suc a
value_row_step (Bin op a b) = suc a
value_row_step (Shift left a by) = suc a

abbrev pub value_operators : Val → ℕ
value_operators = by_val value_row_step

-- ---- Places of faults

-- behind so many nodes and loads
abbrev pub later : (nodes loads : ℕ) → Fault → Fault
later nodes loads (f.Extent array) = f.Extent array
later nodes loads (f.OutOfBounds access) = f.OutOfBounds (loads + access)
later nodes loads (f.Unwritten access) = f.Unwritten (loads + access)
later nodes loads (f.Overflow node) = f.Overflow (nodes + node)

-- the numbers of a fault are below these
abbrev pub IsBelow : (nodes loads : ℕ) → Fault → Type 0
IsBelow nodes loads (f.Extent array) = Unit {0}
IsBelow nodes loads (f.OutOfBounds access) = access < loads
IsBelow nodes loads (f.Unwritten access) = access < loads
IsBelow nodes loads (f.Overflow node) = node < nodes

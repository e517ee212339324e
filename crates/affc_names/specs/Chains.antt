-- Chains of operators: the first operand, and step by step what is done with it.
use Rattle.std.specs.Prelude.{ℤ, Ok}
use Rattle.affc_ast.specs.declared.tree.Ix.{Ix}
use Rattle.affc_ast.specs.declared.tree.Ix.TheVariants.{Neg, Add, Sub, Mul}
use Rattle.affc_ast.specs.declared.tree.Val.{Val}
use Rattle.affc_ast.specs.declared.tree.Val.TheVariants as val
use Rattle.affc_grammar.specs.Draft as d
use Rattle.affc_grammar.specs.Grammar as g
use Rattle.affc_grammar.specs.Names.{Scope, Checked, ◌>>=◌, choice_tree, rounding_tree, ix_tree, value_tree}
use Rattle.affc_syntax.specs.draft.Drafts.{ix, value}
use Rattle.affc_names.specs.Stored as stored
use Rattle.affc_names.specs.declared.chain.Join.{Join}
use Rattle.affc_names.specs.declared.chain.Join.TheVariants.{Plus, Minus, Times}
use Rattle.affc_names.specs.declared.chain.IxStep.{IxStep}
use Rattle.affc_names.specs.declared.chain.ValueStep.{ValueStep}
use Rattle.affc_names.specs.declared.chain.ValueStep.TheVariants as v

-- ---- Expressions

abbrev pub joined : Join → d.IxDraft → d.IxDraft → d.IxDraft
joined Plus a b = d.sum a b
joined Minus a b = d.difference a b
joined (Times at) a b = d.product at a b

-- an expression, and one step more
abbrev pub with_step : d.IxDraft → IxStep → d.IxDraft
with_step a s = joined s.join a (ix s.right.now)

-- no operator stands between two parts of the expression
abbrev pub IsOperand : d.IxDraft → Type 0
IsOperand (d.sum a b) = ⊥
IsOperand (d.difference a b) = ⊥
IsOperand (d.product at a b) = ⊥
IsOperand _ = Unit {0}

abbrev pub joined_trees : Join → Ix → Ix → Ix
joined_trees Plus = Add
joined_trees Minus = Sub
joined_trees (Times at) = Mul

-- a tree, and one step more
abbrev pub step_tree : Scope → Ix → IxStep → Checked Ix
step_tree scope x s = ix_tree scope (stored.ix (ix s.right.now)) >>= (λ y. Ok (joined_trees s.join x y))

-- one operator, by what is read of its operands
abbrev pub negation_read : Checked Ix → Checked Ix
negation_read a = a >>= (λ x. Ok (Neg x))

abbrev pub choice_read : g.Choice → Checked Ix → Checked Ix → Checked Ix
choice_read f a b = a >>= (λ x. b >>= (λ y. Ok (choice_tree f x y)))

abbrev pub rounding_read : g.Rounding → Checked Ix → ℤ → Checked Ix
rounding_read f a by = a >>= (λ x. Ok (rounding_tree f x by))

-- ---- Values

abbrev pub with_value_step : d.ValueDraft → ValueStep → d.ValueDraft
with_value_step a v.Complement = d.complement a
with_value_step a (v.Shift left by) = d.shift left a by
with_value_step a (v.Binary op b) = d.binary op a (value b.now)

-- the value has no `~`, no shift and no operator outside parentheses
abbrev pub IsValueOperand : d.ValueDraft → Type 0
IsValueOperand (d.complement a) = ⊥
IsValueOperand (d.binary op a b) = ⊥
IsValueOperand (d.shift left a by) = ⊥
IsValueOperand _ = Unit {0}

abbrev pub value_step_tree : Scope → Val → ValueStep → Checked Val
value_step_tree scope x v.Complement = Ok (val.Not x)
value_step_tree scope x (v.Shift left by) = Ok (val.Shift left x (stored.bits by))
value_step_tree scope x (v.Binary op b) = value_tree scope (stored.value (value b.now)) >>= (λ y. Ok (val.Bin op x y))

-- The outermost operator of an expression: its first operand, and what is done with that.
use Rattle.std.specs.Prelude.{◌≡◌, ℕ, suc, ◌+◌, ℤ, ◌+ℤ◌, ◌-ℤ◌, ◌*ℤ◌, neg_ℤ, true, ◌&&◌, List, [], ◌∷◌, Result, Ok}
use Rattle.std.specs.Int.{int_max, int_min}
use Rattle.affc_ast.specs.declared.tree.Ix.{Ix}
use Rattle.affc_ast.specs.Cause.{Cause, ◌>>=◌}
use Rattle.affc_ast.specs.Fits.{Whole, whole_on_one, whole_on_both, is_divisor, whole_of}
use Rattle.affc_ast.specs.Index.{in_int64, divided, floor_of, ceiling_of, remainder_of, nodes_of_ix, index_value}
use Rattle.affc_interp.specs.Operands.{first_operand, operators}
use Rattle.affc_interp.specs.declared.step.Join.{Join}
use Rattle.affc_interp.specs.declared.step.Join.TheVariants.{Sum, Difference, Product, Least, Greatest, Remainder}
use Rattle.affc_interp.specs.declared.step.Step.{Step}
use Rattle.affc_interp.specs.declared.step.Step.TheVariants.{Opposite, Floor, Ceiling, Joined}

-- ---- In 64 bits

abbrev pub joined : Join → (node : ℕ) → ℤ → ℤ → Result ℤ Cause
joined Sum node x y = in_int64 node (x +ℤ y)
joined Difference node x y = in_int64 node (x -ℤ y)
joined Product node x y = in_int64 node (x *ℤ y)
joined Least node x y = Ok (int_min x y)
joined Greatest node x y = Ok (int_max x y)
joined Remainder node x y = divided node remainder_of x y

-- what is made of the first operand's value; what stands on the right begins with the node of that number
abbrev pub made : Step → (node right : ℕ) → (names : List ℤ) → ℤ → Result ℤ Cause
made Opposite node right names x = in_int64 node (neg_ℤ x)
made (Floor n) node right names x = divided node floor_of x n
made (Ceiling n) node right names x = divided node ceiling_of x n
made (Joined j b) node right names x = index_value b.now right names >>= joined j node x

-- ---- As whole numbers

abbrev pub number : ℤ → Whole
number z = record { value = z; defined = true }

abbrev pub whole_joined : Join → Whole → Whole → Whole
whole_joined Sum v w = whole_on_both ◌+ℤ◌ v w
whole_joined Difference v w = whole_on_both ◌-ℤ◌ v w
whole_joined Product v w = whole_on_both ◌*ℤ◌ v w
whole_joined Least v w = whole_on_both int_min v w
whole_joined Greatest v w = whole_on_both int_max v w
whole_joined Remainder v w = record { value = remainder_of v.value w.value; defined = v.defined && w.defined && is_divisor w.value }

abbrev pub whole_made : Step → (names : List ℤ) → Whole → Whole
whole_made Opposite names w = whole_on_one neg_ℤ w
whole_made (Floor n) names w = record { value = floor_of w.value n; defined = w.defined && is_divisor n }
whole_made (Ceiling n) names w = record { value = ceiling_of w.value n; defined = w.defined && is_divisor n }
whole_made (Joined j b) names w = whole_joined j w (whole_of b.now names)

-- what operators in a row make, the outermost first
abbrev pub all_made : List Step → (names : List ℤ) → Whole → Whole
all_made [] names w = w
all_made (s ∷ ss) names w = whole_made s names (all_made ss names w)

-- ---- Both

-- how many nodes stand on the right
abbrev pub right_nodes : Step → ℕ
right_nodes Opposite = 0
right_nodes (Floor n) = 0
right_nodes (Ceiling n) = 0
right_nodes (Joined j b) = nodes_of_ix b.now

-- an expression without operators
pub record IsAtom (e : Ix) : Type 0 where
  pub none : operators e ≡ 0
  pub one : nodes_of_ix e ≡ 1

-- an expression, its first operand, and what is done with that
pub record IsStep (e a : Ix) (s : Step) : Type 0 where
  pub first : a ≡ first_operand e
  pub more : operators e ≡ suc (operators a)
  pub nodes : nodes_of_ix e ≡ 1 + nodes_of_ix a + right_nodes s
  pub value : (node : ℕ) (names : List ℤ) → index_value e node names ≡ index_value a (node + 1) names >>= made s node (node + 1 + nodes_of_ix a) names
  pub whole : (names : List ℤ) → whole_of e names ≡ whole_made s names (whole_of a names)

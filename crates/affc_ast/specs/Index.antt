-- Index expressions: bounds, subscripts, extents, the sides of comparisons. They are computed in `int64_t`,
-- which has exactly 64 bits (7.20.1.1), and a result that it can't hold is undefined (6.5).
use Rattle.std.specs.Prelude.{ℕ, ◌+◌, ◌^◌, ℤ, pos, negsuc, ◌+ℤ◌, ◌-ℤ◌, ◌*ℤ◌, neg_ℤ, Bool, not, ◌&&◌, nat_lt, int_lt, int_le, if◌then◌else◌, List, [], ◌∷◌, get_or, Result, Ok, Err}
use Rattle.std.specs.Int.{int_max, int_min, int_div_euclid, int_rem_euclid}
use Rattle.affc_ast.specs.declared.tree.Rel.{Rel}
use Rattle.affc_ast.specs.declared.tree.Rel.TheVariants.{Less, LessEqual, Greater, GreaterEqual, Equal, NotEqual}
use Rattle.affc_ast.specs.declared.tree.Compare.{Compare}
use Rattle.affc_ast.specs.declared.tree.Ix.{Ix}
use Rattle.affc_ast.specs.declared.tree.Ix.TheOpen.{Ix-F, Lit, Name, Neg, Add, Sub, Mul, Min, Max, Floord, Ceild, Mod}
use Rattle.affc_ast.specs.Cause.{Cause, Overflow, ◌>>=◌}
use Rattle.affc_ast.specs.Recursion.{by_ix}

-- ---- Numbers

-- from -2^63 to 2^63 - 1
abbrev pub is_int64 : ℤ → Bool
is_int64 (pos n) = nat_lt n (2 ^ 63)
is_int64 (negsuc n) = nat_lt n (2 ^ 63)

-- the number, where `int64_t` can hold it
abbrev pub in_int64 : (node : ℕ) → ℤ → Result ℤ Cause
in_int64 node z = if is_int64 z then Ok z else Err (Overflow node)

-- for a divisor of at least 1: the greatest whole number that isn't above the quotient
abbrev pub floor_of : ℤ → ℤ → ℤ
floor_of x n = int_div_euclid x n

-- for a divisor of at least 1: the least whole number that isn't below the quotient
abbrev pub ceiling_of : ℤ → ℤ → ℤ
ceiling_of x n = neg_ℤ (floor_of (neg_ℤ x) n)

-- for a divisor of at least 1: the remainder from 0 to n - 1. (C's `%` takes the sign of the dividend, 6.5.5.)
abbrev pub remainder_of : ℤ → ℤ → ℤ
remainder_of x n = int_rem_euclid x n

-- what this gives, where the divisor is at least 1
abbrev pub divided : (node : ℕ) → (ℤ → ℤ → ℤ) → ℤ → ℤ → Result ℤ Cause
divided node f x n = if int_lt n (pos 1) then Err (Overflow node) else Ok (f x n)

-- ---- Expressions

-- An expression: how many nodes it has, and what it gives where its first node has this number and the visible
-- names have these values. The nodes of a tree are numbered in preorder.
pub record Index : Type 0 where
  pub nodes : ℕ
  pub value : (node : ℕ) (names : List ℤ) → Result ℤ Cause

abbrev pub on_one : ((node : ℕ) → ℤ → Result ℤ Cause) → Index → Index
on_one f a = record {
  nodes = 1 + a.nodes;
  value = λ node names. a.value (node + 1) names >>= f node;
}

-- the left side first
abbrev pub on_both : ((node : ℕ) → ℤ → ℤ → Result ℤ Cause) → Index → Index → Index
on_both f a b = record {
  nodes = 1 + a.nodes + b.nodes;
  value = λ node names. a.value (node + 1) names >>= (λ x. b.value (node + 1 + a.nodes) names >>= f node x);
}

abbrev pub index_step : Ix-F Index → Index
index_step (Lit n) = record { nodes = 1; value = λ node names. Ok n }
index_step (Name x) = record { nodes = 1; value = λ node names. Ok (get_or names x.0 (pos 0)) }
index_step (Neg a) = on_one (λ node x. in_int64 node (neg_ℤ x)) a
index_step (Add a b) = on_both (λ node x y. in_int64 node (x +ℤ y)) a b
index_step (Sub a b) = on_both (λ node x y. in_int64 node (x -ℤ y)) a b
index_step (Mul a b) = on_both (λ node x y. in_int64 node (x *ℤ y)) a b
index_step (Min a b) = on_both (λ node x y. Ok (int_min x y)) a b
index_step (Max a b) = on_both (λ node x y. Ok (int_max x y)) a b
index_step (Floord a n) = on_one (λ node x. divided node floor_of x n) a
index_step (Ceild a n) = on_one (λ node x. divided node ceiling_of x n) a
index_step (Mod a b) = on_both (λ node x y. divided node remainder_of x y) a b

abbrev pub index_of : Ix → Index
index_of = by_ix index_step

abbrev pub nodes_of_ix : Ix → ℕ
nodes_of_ix e = (index_of e).nodes

abbrev pub index_value : Ix → (node : ℕ) → (names : List ℤ) → Result ℤ Cause
index_value e = (index_of e).value

-- several, from the left
abbrev pub index_values : List Ix → (node : ℕ) → (names : List ℤ) → Result (List ℤ) Cause
index_values [] node names = Ok []
index_values (e ∷ es) node names = do
  x ← index_value e node names
  xs ← index_values es (node + nodes_of_ix e) names
  Ok (x ∷ xs)

-- ---- Conditions

abbrev pub compares : Rel → ℤ → ℤ → Bool
compares Less x y = int_lt x y
compares LessEqual x y = int_le x y
compares Greater x y = int_lt y x
compares GreaterEqual x y = int_le y x
compares Equal x y = int_le x y && int_le y x
compares NotEqual x y = not (int_le x y && int_le y x)

abbrev pub nodes_of_compare : Compare → ℕ
nodes_of_compare c = 1 + nodes_of_ix c.left + nodes_of_ix c.right

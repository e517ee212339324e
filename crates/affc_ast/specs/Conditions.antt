-- Conditions as a run reads them: in `int64_t`, from the left, and no further than the answer needs (6.5.13, 6.5.14).
use Rattle.std.specs.Prelude.{ℕ, ◌+◌, ℤ, pos, Bool, true, false, not, if◌then◌else◌, List, [], ◌∷◌, sum_by, Result, Ok}
use Rattle.std.specs.Ordering.{int_eq}
use Rattle.affc_ast.specs.declared.tree.Cond.{Cond}
use Rattle.affc_ast.specs.declared.tree.Cond.TheOpen.{Cond-F, Compare, All, Any, Divides}
use Rattle.affc_ast.specs.Cause.{Cause, ◌>>=◌}
use Rattle.affc_ast.specs.Index.{nodes_of_ix, index_value, compares, remainder_of}
use Rattle.affc_ast.specs.Recursion.{by_cond}

-- whether a number of at least 1 divides x
abbrev pub divides : (by x : ℤ) → Bool
divides by x = int_eq (remainder_of x by) (pos 0)

-- the truth of a test that is to be so
abbrev pub is_so : (so : Bool) → Bool → Bool
is_so true b = b
is_so false b = not b

-- A condition: how many nodes it has, and what it gives where its own node has this number and the visible names have
-- these values.
pub record Reading : Type 0 where
  pub nodes : ℕ
  pub value : (node : ℕ) (names : List ℤ) → Result Bool Cause

abbrev pub nodes_of_entries : List Reading → ℕ
nodes_of_entries rs = sum_by (λ (r : Reading). r.nodes) rs

-- up to the first that is false
abbrev pub all_read : List Reading → (node : ℕ) → (names : List ℤ) → Result Bool Cause
all_read [] node names = Ok true
all_read (r ∷ rs) node names = do
  b ← r.value node names
  if b then all_read rs (node + r.nodes) names else Ok false

-- up to the first that is true
abbrev pub some_read : List Reading → (node : ℕ) → (names : List ℤ) → Result Bool Cause
some_read [] node names = Ok false
some_read (r ∷ rs) node names = do
  b ← r.value node names
  if b then Ok true else some_read rs (node + r.nodes) names

-- a node is the condition itself, and then come its sides, its entries or its value
abbrev pub reading_step : Cond-F Reading → Reading
reading_step (Compare rel left right) = record {
  nodes = 1 + nodes_of_ix left + nodes_of_ix right;
  value = λ node names. do
    x ← index_value left (node + 1) names
    y ← index_value right (node + 1 + nodes_of_ix left) names
    Ok (compares rel x y);
}
reading_step (All rs) = record { nodes = 1 + nodes_of_entries rs; value = λ node names. all_read rs (node + 1) names }
reading_step (Any rs) = record { nodes = 1 + nodes_of_entries rs; value = λ node names. some_read rs (node + 1) names }
reading_step (Divides value by so) = record {
  nodes = 1 + nodes_of_ix value;
  value = λ node names. do
    x ← index_value value (node + 1) names
    Ok (is_so so (divides by x));
}

abbrev pub reading_of : Cond → Reading
reading_of = by_cond reading_step

abbrev pub nodes_of_cond : Cond → ℕ
nodes_of_cond cond = (reading_of cond).nodes

abbrev pub condition : Cond → (node : ℕ) → (names : List ℤ) → Result Bool Cause
condition cond = (reading_of cond).value

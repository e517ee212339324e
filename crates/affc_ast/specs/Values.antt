-- Values: numbers of `uint64_t`, from 0 to 2^64 - 1. A result that it can't hold is reduced modulo 2^64 (6.2.5).
use Rattle.std.specs.Prelude.{ℕ, ◌+◌, ◌-◌, ◌*◌, ◌/◌, ◌%◌, ◌^◌, ℤ, pos, negsuc, Bool, true, false, ◌&&◌, int_lt, int_le, if◌then◌else◌, bit_and, bit_or, bit_xor, List, [], ◌∷◌, get_or, Option, Some, None, Result, Ok, Err, sum_by}
use Rattle.affc_ast.specs.declared.tree.ArrayId.{ArrayId}
use Rattle.affc_ast.specs.declared.tree.Instance.{Instance}
use Rattle.affc_ast.specs.declared.tree.Op.{Op}
use Rattle.affc_ast.specs.declared.tree.Op.TheVariants.{Add, Sub, Mul, And, Or, Xor}
use Rattle.affc_ast.specs.declared.tree.Val.{Val}
use Rattle.affc_ast.specs.declared.tree.Val.TheOpen.{Val-F, Load, Const, Cast, Not, Bin, Shift}
use Rattle.affc_ast.specs.Cause.{Cause, OutOfBounds, Unwritten, ◌>>=◌}
use Rattle.affc_ast.specs.Index.{nodes_of_ix, index_value, index_values}
use Rattle.affc_ast.specs.Recursion.{by_val}
use Rattle.affc_ast.specs.Store.{Element, Store, at}

-- ---- Operations

-- (6.5.5, 6.5.6, 6.5.10 to 6.5.12)
abbrev pub operate : Op → ℕ → ℕ → ℕ
operate Add x y = (x + y) % 2 ^ 64
operate Sub x y = (x + 2 ^ 64 - y) % 2 ^ 64
operate Mul x y = (x * y) % 2 ^ 64
operate And x y = bit_and x y
operate Or x y = bit_or x y
operate Xor x y = bit_xor x y

-- `~`: each of the 64 bits turned (6.5.3.3)
abbrev pub complement : ℕ → ℕ
complement x = 2 ^ 64 - 1 - x

-- `<<` where `left`, else `>>` (6.5.7)
abbrev pub shifted : (left : Bool) → ℕ → (by : ℕ) → ℕ
shifted true x by = (x * 2 ^ by) % 2 ^ 64
shifted false x by = x / 2 ^ by

-- `(uint64_t)`: the number modulo 2^64 (6.3.1.3); -1 becomes 2^64 - 1
abbrev pub converted : ℤ → ℕ
converted (pos n) = n % 2 ^ 64
converted (negsuc n) = 2 ^ 64 - 1 - n % 2 ^ 64

-- ---- Accesses

-- where a statement stands: the values of the visible names, those of the iterators among them, and each array's extents
pub record Scope : Type 0 where
  pub names : List ℤ
  pub iterators : List ℤ
  pub extents : List (List ℤ)

-- as many subscripts as extents, each from 0 to its extent less 1
abbrev pub is_within : (subscripts extents : List ℤ) → Bool
is_within [] [] = true
is_within (x ∷ xs) (n ∷ ns) = int_le (pos 0) x && int_lt x n && is_within xs ns
is_within _ _ = false

-- the element that an access touches
abbrev pub touch : Scope → Instance → (access : ℕ) → ArrayId → List ℤ → Result Element Cause
touch scope here access array subscripts =
    if is_within subscripts (get_or scope.extents array.0 []) then Ok (array.0, subscripts) else Err (OutOfBounds here access)

abbrev pub held : Instance → (access : ℕ) → Option ℕ → Result ℕ Cause
held here access None = Err (Unwritten here access)
held here access (Some v) = Ok v

-- what a load gives
abbrev pub load : Scope → Store → Instance → (access : ℕ) → ArrayId → List ℤ → Result ℕ Cause
load scope store here access array subscripts = do
  x ← touch scope here access array subscripts
  held here access (at store x)

-- ---- Values

-- where a value is read: the numbers of its first node and of its first load, and what is seen there
pub record Sight : Type 0 where
  pub node : ℕ
  pub access : ℕ
  pub scope : Scope
  pub store : Store
  pub here : Instance

abbrev pub deeper : Sight → Sight
deeper s = record s { node = s.node + 1 }

-- a value: how many nodes and loads it has, and what it gives where it is read
pub record Value : Type 0 where
  pub nodes : ℕ
  pub loads : ℕ
  pub value : Sight → Result ℕ Cause

abbrev pub on_value : (ℕ → ℕ) → Value → Value
on_value f a = record {
  nodes = 1 + a.nodes;
  loads = a.loads;
  value = λ s. a.value (deeper s) >>= (λ x. Ok (f x));
}

-- the left side first
abbrev pub on_values : (ℕ → ℕ → ℕ) → Value → Value → Value
on_values f a b = record {
  nodes = 1 + a.nodes + b.nodes;
  loads = a.loads + b.loads;
  value = λ s.
      a.value (deeper s) >>= (λ x.
      b.value (record s { node = s.node + 1 + a.nodes; access = s.access + a.loads }) >>= (λ y.
      Ok (f x y)));
}

abbrev pub value_step : Val-F Value → Value
value_step (Load array subs) = record {
  nodes = 1 + sum_by nodes_of_ix subs;
  loads = 1;
  value = λ s. index_values subs (s.node + 1) s.scope.names >>= load s.scope s.store s.here s.access array;
}
value_step (Const n) = record { nodes = 1; loads = 0; value = λ s. Ok n }
value_step (Cast e) = record {
  nodes = 1 + nodes_of_ix e;
  loads = 0;
  value = λ s. index_value e (s.node + 1) s.scope.names >>= (λ x. Ok (converted x));
}
value_step (Not a) = on_value complement a
value_step (Bin op a b) = on_values (operate op) a b
value_step (Shift left a by) = on_value (λ x. shifted left x by) a

abbrev pub value_of : Val → Value
value_of = by_val value_step

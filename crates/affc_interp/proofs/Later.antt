-- What is read from other numbers of the first node and the first load on.
use Rattle.std.proofs.Common.{◌≡◌, ℕ, ◌+◌, ◌<◌, ◌≤◌, ◌^◌, ℤ, pos, ◌+ℤ◌, ◌-ℤ◌, ◌*ℤ◌, neg_ℤ, Bool, true, false, if◌then◌else◌, int_lt, List, [], ◌∷◌, get_or, Option, Some, None, Result, Ok, Err, refl, sym, ap, ◌∙◌, subst, arith}
use Rattle.std.specs.Prelude.{sum_by}
use Rattle.std.proofs.lemmas.List.Sums.{sum_by-cons}
use Rattle.std.specs.Int.{int_max, int_min}
use Rattle.affc_ast.specs.declared.tree.ArrayId.{ArrayId}
use Rattle.affc_ast.specs.declared.tree.Instance.{Instance}
use Rattle.affc_ast.specs.declared.tree.Ix.{Ix}
use Rattle.affc_ast.specs.declared.tree.Ix.TheVariants as c
use Rattle.affc_ast.specs.declared.tree.Ix.TheBlock.{more_of-Ix, end_of-Ix}
use Rattle.affc_ast.specs.declared.tree.Val.{Val}
use Rattle.affc_ast.specs.declared.tree.Val.TheVariants as v
use Rattle.affc_ast.specs.declared.tree.Val.TheBlock.{more_of-Val, end_of-Val}
use Rattle.affc_ast.specs.Cause.{Cause, Extent, Overflow, OutOfBounds, Unwritten, ◌>>=◌}
use Rattle.affc_ast.specs.Index.{is_int64, in_int64, divided, floor_of, ceiling_of, remainder_of, Index, on_one, on_both, index_of, nodes_of_ix, index_value, index_values}
use Rattle.affc_ast.specs.Store.{at}
use Rattle.affc_ast.specs.Values.{Value, Scope, is_within, operate, complement, shifted, converted, on_value, on_values, value_of, load, held, touch}
use Rattle.affc_interp.specs.declared.fault.Fault.{Fault}
use Rattle.affc_interp.specs.declared.fault.Fault.TheVariants as f
use Rattle.affc_interp.specs.Layout.{Held}
use Rattle.affc_interp.specs.Operands.{later, IsBelow}
use Rattle.affc_interp.specs.Seen.{as_reading, as_value, cause_at, scope_at, sight_at}

-- ---- Causes

abbrev pub later_cause : (nodes loads : ℕ) → Cause → Cause
later_cause m l (Extent array) = Extent array
later_cause m l (Overflow node) = Overflow (m + node)
later_cause m l (OutOfBounds here access) = OutOfBounds here (l + access)
later_cause m l (Unwritten here access) = Unwritten here (l + access)

abbrev pub later_in : {A : Type 0} → (nodes loads : ℕ) → Result A Cause → Result A Cause
later_in m l (Ok x) = Ok x
later_in m l (Err cause) = Err (later_cause m l cause)

-- its numbers are below these
abbrev pub CauseBelow : (nodes loads : ℕ) → Cause → Type 0
CauseBelow p q (Extent array) = Unit {0}
CauseBelow p q (Overflow node) = node < p
CauseBelow p q (OutOfBounds here access) = access < q
CauseBelow p q (Unwritten here access) = access < q

abbrev pub Below : {A : Type 0} → (nodes loads : ℕ) → Result A Cause → Type 0
Below p q (Ok x) = Unit {0}
Below p q (Err cause) = CauseBelow p q cause

later_bind : {A B : Type 0} (m l : ℕ) (r : Result A Cause) (g h : A → Result B Cause) → ((x : A) → g x ≡ later_in m l (h x)) → later_in m l r >>= g ≡ later_in m l (r >>= h)
later_bind m l (Ok x) g h e = e x
later_bind m l (Err cause) g h e = refl

below_bind : {A B : Type 0} (p q : ℕ) (r : Result A Cause) (g : A → Result B Cause) → Below p q r → ((x : A) → Below p q (g x)) → Below p q (r >>= g)
below_bind p q (Ok x) g h k = k x
below_bind p q (Err cause) g h k = h

more_below : {A : Type 0} (p q p' q' : ℕ) (r : Result A Cause) → p ≤ p' → q ≤ q' → Below p q r → Below p' q' r
more_below p q p' q' (Ok x) h k b = tt
more_below p q p' q' (Err (Extent array)) h k b = tt
more_below p q p' q' (Err (Overflow node)) h k b = omega (arith, h, b)
more_below p q p' q' (Err (OutOfBounds here access)) h k b = omega (arith, k, b)
more_below p q p' q' (Err (Unwritten here access)) h k b = omega (arith, k, b)

-- a reading that counts its nodes and its loads from where it begins
pub record Counted {A : Type 0} (nodes loads : ℕ) (read : (node access : ℕ) → Result A Cause) : Type 0 where
  pub later : (m l k j : ℕ) → read (m + k) (l + j) ≡ later_in m l (read k j)
  pub below : (k j : ℕ) → Below (k + nodes) (j + loads) (read k j)

ok_counted : {A : Type 0} (n l : ℕ) (x : A) → Counted n l (λ node access. Ok x)
ok_counted n l x = record { later = λ m l k j. refl; below = λ k j. tt }

-- first the one, further on, and then the other, from the same place
then_counted : {A B : Type 0} (n l by by' p q t u : ℕ) (to to' : ℕ → ℕ) (read : (node access : ℕ) → Result A Cause) (next : A → (node access : ℕ) → Result B Cause)
    → ((k : ℕ) → to k ≡ k + by) → ((j : ℕ) → to' j ≡ j + by') → by + n ≤ t → by' + l ≤ u → p ≤ t → q ≤ u → Counted n l read → ((x : A) → Counted p q (next x))
    → Counted t u (λ node access. read (to node) (to' access) >>= (λ x. next x node access))
then_counted n l by by' p q t u to to' read next is is' le le' le_p le_q a b = record {
  later = λ d e k j.
      let z : to (d + k) ≡ d + to k = let g = is (d + k) in let h = is k in omega (arith, g, h) in
      let z' : to' (e + j) ≡ e + to' j = let g = is' (e + j) in let h = is' j in omega (arith, g, h) in
      (λ i. read (z i) (z' i) >>= (λ x. next x (d + k) (e + j)))
      ∙ ap (λ r. r >>= (λ x. next x (d + k) (e + j))) (a.later d e (to k) (to' j))
      ∙ later_bind d e (read (to k) (to' j)) (λ x. next x (d + k) (e + j)) (λ x. next x k j) (λ x. (b x).later d e k j);
  below = λ k j.
      let g = is k in
      let g' = is' j in
      below_bind (k + t) (j + u) (read (to k) (to' j)) (λ x. next x k j)
      (more_below (to k + n) (to' j + l) (k + t) (j + u) (read (to k) (to' j)) (omega (arith, le, g)) (omega (arith, le', g')) (a.below (to k) (to' j)))
      (λ x. more_below (k + p) (j + q) (k + t) (j + u) (next x k j) (omega (arith, le_p)) (omega (arith, le_q)) ((b x).below k j));
}

-- ---- Expressions

if_later : (m l k : ℕ) (b : Bool) (x : ℤ) → (if b then Ok x else Err (Overflow (m + k))) ≡ later_in m l (if b then Ok x else Err (Overflow k))
if_later m l k true x = refl
if_later m l k false x = refl

if_not_later : (m l k : ℕ) (b : Bool) (x : ℤ) → (if b then Err (Overflow (m + k)) else Ok x) ≡ later_in m l (if b then Err (Overflow k) else Ok x)
if_not_later m l k true x = refl
if_not_later m l k false x = refl

if_below : (p q k : ℕ) (b : Bool) (x : ℤ) → k < p → Below p q (if b then Ok x else Err (Overflow k))
if_below p q k true x h = tt
if_below p q k false x h = h

if_not_below : (p q k : ℕ) (b : Bool) (x : ℤ) → k < p → Below p q (if b then Err (Overflow k) else Ok x)
if_not_below p q k true x h = h
if_not_below p q k false x h = tt

-- a reading without loads
abbrev pub CountsNodes : {A : Type 0} → (nodes : ℕ) → (ℕ → Result A Cause) → Type 0
CountsNodes n read = Counted n 0 (λ node access. read node)

int64_counted : (z : ℤ) → CountsNodes 1 (λ node. in_int64 node z)
int64_counted z = record {
  later = λ m l k j. if_later m l k (is_int64 z) z;
  below = λ k j. if_below (k + 1) (j + 0) k (is_int64 z) z (omega arith);
}

divided_counted : (g : ℤ → ℤ → ℤ) (x n : ℤ) → CountsNodes 1 (λ node. divided node g x n)
divided_counted g x n = record {
  later = λ m l k j. if_not_later m l k (int_lt n (pos 1)) (g x n);
  below = λ k j. if_not_below (k + 1) (j + 0) k (int_lt n (pos 1)) (g x n) (omega arith);
}

one_counted : (g : ℕ → ℤ → Result ℤ Cause) (a : Index) (names : List ℤ) → ((x : ℤ) → CountsNodes 1 (λ node. g node x)) → CountsNodes a.nodes (λ node. a.value node names)
    → CountsNodes (on_one g a).nodes (λ node. (on_one g a).value node names)
one_counted g a names own inner =
    then_counted a.nodes 0 1 0 1 0 (1 + a.nodes) 0 (λ k. k + 1) (λ j. j + 0) (λ node access. a.value node names) (λ x node access. g node x) (λ k. refl) (λ j. refl)
    (omega arith) (omega arith) (omega arith) (omega arith) inner own

both_counted : (g : ℕ → ℤ → ℤ → Result ℤ Cause) (a b : Index) (names : List ℤ) → ((x y : ℤ) → CountsNodes 1 (λ node. g node x y)) → CountsNodes a.nodes (λ node. a.value node names)
    → CountsNodes b.nodes (λ node. b.value node names) → CountsNodes (on_both g a b).nodes (λ node. (on_both g a b).value node names)
both_counted g a b names own left right =
    then_counted a.nodes 0 1 0 (1 + a.nodes + b.nodes) 0 (1 + a.nodes + b.nodes) 0 (λ k. k + 1) (λ j. j + 0) (λ node access. a.value node names) (λ x node access. b.value (node + 1 + a.nodes) names >>= g node x)
    (λ k. refl) (λ j. refl) (omega arith) (omega arith) (omega arith) (omega arith) left
    (λ x. then_counted b.nodes 0 (1 + a.nodes) 0 1 0 (1 + a.nodes + b.nodes) 0 (λ k. k + 1 + a.nodes) (λ j. j + 0) (λ node access. b.value node names) (λ y node access. g node x y)
    (λ k. omega arith) (λ j. refl) (omega arith) (omega arith) (omega arith) (omega arith) right (own x))

pub ix_counted : (names : List ℤ) (e : Ix) → CountsNodes (nodes_of_ix e) (λ node. index_value e node names)
ix_counted names (c.Lit n) = ok_counted 1 0 n
ix_counted names (c.Name x) = ok_counted 1 0 (get_or names x.0 (pos 0))
ix_counted names (c.Neg' s (more_of-Ix a end_of-Ix)) = one_counted _ (index_of a) names (λ x. int64_counted (neg_ℤ x)) (ix_counted names a)
ix_counted names (c.Floord' s (more_of-Ix a end_of-Ix) n) = one_counted _ (index_of a) names (λ x. divided_counted floor_of x n) (ix_counted names a)
ix_counted names (c.Ceild' s (more_of-Ix a end_of-Ix) n) = one_counted _ (index_of a) names (λ x. divided_counted ceiling_of x n) (ix_counted names a)
ix_counted names (c.Add' s (more_of-Ix a end_of-Ix) t (more_of-Ix b end_of-Ix)) = both_counted _ (index_of a) (index_of b) names (λ x y. int64_counted (x +ℤ y)) (ix_counted names a) (ix_counted names b)
ix_counted names (c.Sub' s (more_of-Ix a end_of-Ix) t (more_of-Ix b end_of-Ix)) = both_counted _ (index_of a) (index_of b) names (λ x y. int64_counted (x -ℤ y)) (ix_counted names a) (ix_counted names b)
ix_counted names (c.Mul' s (more_of-Ix a end_of-Ix) t (more_of-Ix b end_of-Ix)) = both_counted _ (index_of a) (index_of b) names (λ x y. int64_counted (x *ℤ y)) (ix_counted names a) (ix_counted names b)
ix_counted names (c.Min' s (more_of-Ix a end_of-Ix) t (more_of-Ix b end_of-Ix)) = both_counted _ (index_of a) (index_of b) names (λ x y. ok_counted 1 0 (int_min x y)) (ix_counted names a) (ix_counted names b)
ix_counted names (c.Max' s (more_of-Ix a end_of-Ix) t (more_of-Ix b end_of-Ix)) = both_counted _ (index_of a) (index_of b) names (λ x y. ok_counted 1 0 (int_max x y)) (ix_counted names a) (ix_counted names b)
ix_counted names (c.Mod' s (more_of-Ix a end_of-Ix) t (more_of-Ix b end_of-Ix)) = both_counted _ (index_of a) (index_of b) names (λ x y. divided_counted remainder_of x y) (ix_counted names a) (ix_counted names b)

-- several, one behind the other
ixs_counted : (names : List ℤ) (es : List Ix) → CountsNodes (sum_by nodes_of_ix es) (λ node. index_values es node names)
ixs_counted names [] = ok_counted 0 0 []
ixs_counted names (e ∷ es) =
    let n : sum_by nodes_of_ix (e ∷ es) ≡ nodes_of_ix e + sum_by nodes_of_ix es = sum_by-cons nodes_of_ix e es in
    then_counted (nodes_of_ix e) 0 0 0 (sum_by nodes_of_ix (e ∷ es)) 0 (sum_by nodes_of_ix (e ∷ es)) 0 (λ k. k) (λ j. j + 0) (λ node access. index_value e node names)
    (λ x node access. index_values es (node + nodes_of_ix e) names >>= (λ xs. Ok (x ∷ xs))) (λ k. omega arith) (λ j. refl) (omega (arith, n)) (omega arith) (omega arith) (omega arith) (ix_counted names e)
    (λ x. then_counted (sum_by nodes_of_ix es) 0 (nodes_of_ix e) 0 0 0 (sum_by nodes_of_ix (e ∷ es)) 0 (λ k. k + nodes_of_ix e) (λ j. j + 0) (λ node access. index_values es node names)
    (λ xs node access. Ok (x ∷ xs)) (λ k. refl) (λ j. refl) (omega (arith, n)) (omega arith) (omega arith) (omega arith) (ixs_counted names es) (λ xs. ok_counted 0 0 (x ∷ xs)))

-- ---- Values

touch_later : (m l j : ℕ) (b : Bool) (x : ℕ × List ℤ) (here : Instance) → (if b then Ok x else Err (OutOfBounds here (l + j))) ≡ later_in m l (if b then Ok x else Err (OutOfBounds here j))
touch_later m l j true x here = refl
touch_later m l j false x here = refl

touch_below : (p q j : ℕ) (b : Bool) (x : ℕ × List ℤ) (here : Instance) → j < q → Below p q (if b then Ok x else Err (OutOfBounds here j))
touch_below p q j true x here h = tt
touch_below p q j false x here h = h

held_counted : (here : Instance) (cell : Option ℕ) → Counted 0 1 (λ node access. held here access cell)
held_counted here None = record { later = λ m l k j. refl; below = λ k j. omega arith }
held_counted here (Some x) = ok_counted 0 1 x

load_counted : (scope : Scope) (store : _) (here : Instance) (array : ArrayId) (xs : List ℤ) → Counted 0 1 (λ node access. load scope store here access array xs)
load_counted scope store here array xs =
    then_counted 0 1 0 0 0 1 0 1 (λ k. k) (λ j. j) (λ node access. touch scope here access array xs) (λ x node access. held here access (at store x)) (λ k. omega arith) (λ j. omega arith)
    (omega arith) (omega arith) (omega arith) (omega arith)
    (record {
      later = λ m l k j. touch_later m l j (is_within xs (get_or scope.extents array.0 [])) (array.0, xs) here;
      below = λ k j. touch_below (k + 0) (j + 1) j (is_within xs (get_or scope.extents array.0 [])) (array.0, xs) here (omega arith);
    }) (λ x. held_counted here (at store x))

module _ (names : List ℤ) (memory : Held) (here : Instance) where
  abbrev read_at : Value → (node access : ℕ) → Result ℕ Cause
  read_at w node access = w.value (sight_at node access names memory here)

  abbrev IsCountedValue : Value → Type 0
  IsCountedValue w = Counted w.nodes w.loads (read_at w)

  value_counted_on : (g : ℕ → ℕ) (a : Value) → IsCountedValue a → IsCountedValue (on_value g a)
  value_counted_on g a inner =
      then_counted a.nodes a.loads 1 0 0 0 (1 + a.nodes) a.loads (λ k. k + 1) (λ j. j) (read_at a) (λ x node access. Ok (g x)) (λ k. refl) (λ j. omega arith)
      (omega arith) (omega arith) (omega arith) (omega arith) inner (λ x. ok_counted 0 0 (g x))

  values_counted_on : (g : ℕ → ℕ → ℕ) (a b : Value) → IsCountedValue a → IsCountedValue b → IsCountedValue (on_values g a b)
  values_counted_on g a b left right =
      then_counted a.nodes a.loads 1 0 (1 + a.nodes + b.nodes) (a.loads + b.loads) (1 + a.nodes + b.nodes) (a.loads + b.loads) (λ k. k + 1) (λ j. j) (read_at a)
      (λ x node access. read_at b (node + 1 + a.nodes) (access + a.loads) >>= (λ y. Ok (g x y))) (λ k. refl) (λ j. omega arith)
      (omega arith) (omega arith) (omega arith) (omega arith) left
      (λ x. then_counted b.nodes b.loads (1 + a.nodes) a.loads 0 0 (1 + a.nodes + b.nodes) (a.loads + b.loads) (λ k. k + 1 + a.nodes) (λ j. j + a.loads) (read_at b)
      (λ y node access. Ok (g x y)) (λ k. omega arith) (λ j. refl) (omega arith) (omega arith) (omega arith) (omega arith) right (λ y. ok_counted 0 0 (g x y)))

  value_counted : (e : Val) → IsCountedValue (value_of e)
  value_counted (v.Load array subs) =
      then_counted (sum_by nodes_of_ix subs) 0 1 0 0 1 (1 + sum_by nodes_of_ix subs) 1 (λ k. k + 1) (λ j. j + 0) (λ node access. index_values subs node names)
      (λ xs node access. load (scope_at names memory here) memory.store here access array xs) (λ k. refl) (λ j. refl) (omega arith) (omega arith) (omega arith) (omega arith)
      (ixs_counted names subs) (load_counted (scope_at names memory here) memory.store here array)
  value_counted (v.Const n) = ok_counted 1 0 n
  value_counted (v.Cast e) =
      then_counted (nodes_of_ix e) 0 1 0 0 0 (1 + nodes_of_ix e) 0 (λ k. k + 1) (λ j. j + 0) (λ node access. index_value e node names)
      (λ x node access. Ok (converted x)) (λ k. refl) (λ j. refl) (omega arith) (omega arith) (omega arith) (omega arith) (ix_counted names e) (λ x. ok_counted 0 0 (converted x))
  value_counted (v.Not' s (more_of-Val a end_of-Val)) = value_counted_on complement (value_of a) (value_counted a)
  value_counted (v.Bin' op s (more_of-Val a end_of-Val) t (more_of-Val b end_of-Val)) = values_counted_on (operate op) (value_of a) (value_of b) (value_counted a) (value_counted b)
  value_counted (v.Shift' left s (more_of-Val a end_of-Val) by) = value_counted_on (λ x. shifted left x by) (value_of a) (value_counted a)

-- ---- What is answered

-- the answer of a reading from 0 on, and the same reading further on
pub index_later : (names : List ℤ) (e : Ix) (n : ℕ) (r : Result ℤ ℕ) → as_reading r ≡ index_value e 0 names → index_value e n names ≡ later_in n 0 (as_reading r)
index_later names e n r is =
    let z : n ≡ n + 0 = omega arith in
    ap (λ k. index_value e k names) z ∙ (ix_counted names e).later n 0 0 0 ∙ ap (later_in n 0) (sym is)

pub index_below : (names : List ℤ) (e : Ix) (k : ℕ) → Err (Overflow k) ≡ index_value e 0 names → k < nodes_of_ix e
index_below names e k is =
    let h : k < 0 + nodes_of_ix e = subst (λ (r : Result ℤ Cause). Below (0 + nodes_of_ix e) (0 + 0) r) (sym is) ((ix_counted names e).below 0 0) in
    omega (arith, h)

fault_later : {A : Type 0} (here : Instance) (m l : ℕ) (fault : Fault) → later_in {A = A} m l (Err (cause_at here fault)) ≡ Err (cause_at here (later m l fault))
fault_later here m l (f.Extent array) = refl
fault_later here m l (f.OutOfBounds access) = refl
fault_later here m l (f.Unwritten access) = refl
fault_later here m l (f.Overflow node) = refl

fault_below : (here : Instance) (p q p' q' : ℕ) (fault : Fault) → p ≤ p' → q ≤ q' → CauseBelow p q (cause_at here fault) → IsBelow p' q' fault
fault_below here p q p' q' (f.Extent array) a b h = tt
fault_below here p q p' q' (f.OutOfBounds access) a b h = omega (arith, b, h)
fault_below here p q p' q' (f.Unwritten access) a b h = omega (arith, b, h)
fault_below here p q p' q' (f.Overflow node) a b h = omega (arith, a, h)

pub value_later : (names : List ℤ) (memory : Held) (here : Instance) (e : Val) (n l : ℕ) (r : Result ℕ Fault) → as_value here r ≡ (value_of e).value (sight_at 0 0 names memory here)
    → (value_of e).value (sight_at n l names memory here) ≡ later_in n l (as_value here r)
value_later names memory here e n l r is =
    let z : n ≡ n + 0 = omega arith in
    let w : l ≡ l + 0 = omega arith in
    (λ i. (value_of e).value (sight_at (z i) (w i) names memory here)) ∙ (value_counted names memory here e).later n l 0 0 ∙ ap (later_in n l) (sym is)

pub value_fault : (names : List ℤ) (memory : Held) (here : Instance) (e : Val) (n l : ℕ) (fault : Fault) → Err (cause_at here fault) ≡ (value_of e).value (sight_at 0 0 names memory here)
    → Err (cause_at here (later n l fault)) ≡ (value_of e).value (sight_at n l names memory here)
value_fault names memory here e n l fault is = sym (value_later names memory here e n l (Err fault) is ∙ fault_later here n l fault)

pub value_below : (names : List ℤ) (memory : Held) (here : Instance) (e : Val) (fault : Fault) → Err (cause_at here fault) ≡ (value_of e).value (sight_at 0 0 names memory here)
    → IsBelow (value_of e).nodes (value_of e).loads fault
value_below names memory here e fault is =
    fault_below here (0 + (value_of e).nodes) (0 + (value_of e).loads) (value_of e).nodes (value_of e).loads fault (omega arith) (omega arith)
    (subst (λ (r : Result ℕ Cause). Below (0 + (value_of e).nodes) (0 + (value_of e).loads) r) (sym is) ((value_counted names memory here e).below 0 0))

pub later_fits : (p q n l : ℕ) (fault : Fault) → n + p < 2 ^ 32 → l + q < 2 ^ 32 → IsBelow p q fault → IsBelow (2 ^ 32) (2 ^ 32) (later n l fault)
later_fits p q n l (f.Extent array) h k b = tt
later_fits p q n l (f.OutOfBounds access) h k b = omega (arith, k, b)
later_fits p q n l (f.Unwritten access) h k b = omega (arith, k, b)
later_fits p q n l (f.Overflow node) h k b = omega (arith, h, b)

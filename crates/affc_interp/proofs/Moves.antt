-- What an expression gives doesn't depend on where it stands, nor on names that it doesn't hold.
use Rattle.std.proofs.Common.{◌≡◌, ℕ, suc, ◌+◌, ◌<◌, ℤ, pos, ◌+ℤ◌, ◌-ℤ◌, ◌*ℤ◌, neg_ℤ, Bool, true, false, if◌then◌else◌, int_lt, nat_lt, List, [], ◌∷◌, ◌++◌, length, Result, Ok, Err, refl, sym, ap, subst, ◌∙◌, arith}
use Rattle.std.specs.Int.{int_max, int_min}
use Rattle.std.specs.Prelude.{sum_by}
use Rattle.std.proofs.lemmas.Bool.{and_parts}
use Rattle.std.proofs.lemmas.Bool.Decides.{nat_tests}
use Rattle.std.proofs.lemmas.List.{get_or_append_left}
use Rattle.affc_ast.specs.declared.tree.Decl.{Decl}
use Rattle.affc_ast.specs.declared.tree.Ix.{Ix}
use Rattle.affc_ast.specs.declared.tree.Ix.TheBlock.{more_of-Ix, end_of-Ix}
use Rattle.affc_ast.specs.declared.tree.Ix.TheVariants as c
use Rattle.affc_ast.specs.Cause.{Cause, Overflow, Extent, ◌>>=◌}
use Rattle.affc_ast.specs.Index.{is_int64, in_int64, floor_of, ceiling_of, remainder_of, divided, on_one, on_both, Index, index_of, nodes_of_ix, index_value}
use Rattle.affc_ast.specs.Meaning.{extents_of, all_extents}
use Rattle.affc_ast.proofs.Readings.{bind_ok, same_ok}
use Rattle.affc_interp.specs.Runs.{each_extents, own_extents}
use Rattle.affc_interp.specs.Earlier.{holds_earlier, all_earlier}

abbrev IsOk : {A : Type 0} → Result A Cause → Type 0
IsOk (Ok x) = Unit {0}
IsOk (Err cause) = ⊥

-- ---- Another node

abbrev MovesOne : (ℕ → ℤ → Result ℤ Cause) → Type 0
MovesOne f = (n m : ℕ) (y x : ℤ) → f n y ≡ Ok x → f m y ≡ Ok x

abbrev MovesBoth : (ℕ → ℤ → ℤ → Result ℤ Cause) → Type 0
MovesBoth f = (n m : ℕ) (y z x : ℤ) → f n y z ≡ Ok x → f m y z ≡ Ok x

range_moves : (n m : ℕ) (z x : ℤ) → in_int64 n z ≡ Ok x → in_int64 m z ≡ Ok x
range_moves n m z x e = elim (is_int64 z) as (λ (b : Bool). (if b then Ok z else Err (Overflow n)) ≡ Ok x → (if b then Ok z else Err (Overflow m)) ≡ Ok x) [ true ↦ λ h. h | false ↦ λ h. absurd (subst IsOk (sym h) tt) ] e

quotient_moves : (f : ℤ → ℤ → ℤ) (n m : ℕ) (y z x : ℤ) → divided n f y z ≡ Ok x → divided m f y z ≡ Ok x
quotient_moves f n m y z x e = elim (int_lt z (pos 1)) as (λ (b : Bool). (if b then Err (Overflow n) else Ok (f y z)) ≡ Ok x → (if b then Err (Overflow m) else Ok (f y z)) ≡ Ok x) [ true ↦ λ h. absurd (subst IsOk (sym h) tt) | false ↦ λ h. h ] e

abbrev Moves : Index → Type 0
Moves a = (n m : ℕ) (names : List ℤ) (x : ℤ) → a.value n names ≡ Ok x → a.value m names ≡ Ok x

one_moves : (f : ℕ → ℤ → Result ℤ Cause) (a : Index) → MovesOne f → Moves a → Moves (on_one f a)
one_moves f a g h n m names x e =
    let p = bind_ok (a.value (n + 1) names) (f n) x e in
    ap (λ r. r >>= f m) (h (n + 1) (m + 1) names p.0 p.1) ∙ g n m p.0 x p.2

both_moves : (f : ℕ → ℤ → ℤ → Result ℤ Cause) (a b : Index) → MovesBoth f → Moves a → Moves b → Moves (on_both f a b)
both_moves f a b g h k n m names x e =
    let p = bind_ok (a.value (n + 1) names) (λ y. b.value (n + 1 + a.nodes) names >>= f n y) x e in
    let q = bind_ok (b.value (n + 1 + a.nodes) names) (f n p.0) x p.2 in
    ap (λ r. r >>= (λ y. b.value (m + 1 + a.nodes) names >>= f m y)) (h (n + 1) (m + 1) names p.0 p.1)
    ∙ ap (λ r. r >>= f m p.0) (k (n + 1 + a.nodes) (m + 1 + a.nodes) names q.0 q.1) ∙ g n m p.0 q.0 x q.2

pub moves : (e : Ix) → Moves (index_of e)
moves (c.Lit z) = λ n m names x e. e
moves (c.Name z) = λ n m names x e. e
moves (c.Neg' s (more_of-Ix a end_of-Ix)) = one_moves (λ node x. in_int64 node (neg_ℤ x)) (index_of a) (λ n m y x. range_moves n m (neg_ℤ y) x) (moves a)
moves (c.Floord' s (more_of-Ix a end_of-Ix) z) = one_moves (λ node x. divided node floor_of x z) (index_of a) (λ n m y x. quotient_moves floor_of n m y z x) (moves a)
moves (c.Ceild' s (more_of-Ix a end_of-Ix) z) = one_moves (λ node x. divided node ceiling_of x z) (index_of a) (λ n m y x. quotient_moves ceiling_of n m y z x) (moves a)
moves (c.Add' s (more_of-Ix a end_of-Ix) t (more_of-Ix b end_of-Ix)) = both_moves (λ node x y. in_int64 node (x +ℤ y)) (index_of a) (index_of b) (λ n m y z x. range_moves n m (y +ℤ z) x) (moves a) (moves b)
moves (c.Sub' s (more_of-Ix a end_of-Ix) t (more_of-Ix b end_of-Ix)) = both_moves (λ node x y. in_int64 node (x -ℤ y)) (index_of a) (index_of b) (λ n m y z x. range_moves n m (y -ℤ z) x) (moves a) (moves b)
moves (c.Mul' s (more_of-Ix a end_of-Ix) t (more_of-Ix b end_of-Ix)) = both_moves (λ node x y. in_int64 node (x *ℤ y)) (index_of a) (index_of b) (λ n m y z x. range_moves n m (y *ℤ z) x) (moves a) (moves b)
moves (c.Min' s (more_of-Ix a end_of-Ix) t (more_of-Ix b end_of-Ix)) = both_moves (λ node x y. Ok (int_min x y)) (index_of a) (index_of b) (λ n m y z x h. h) (moves a) (moves b)
moves (c.Max' s (more_of-Ix a end_of-Ix) t (more_of-Ix b end_of-Ix)) = both_moves (λ node x y. Ok (int_max x y)) (index_of a) (index_of b) (λ n m y z x h. h) (moves a) (moves b)
moves (c.Mod' s (more_of-Ix a end_of-Ix) t (more_of-Ix b end_of-Ix)) = both_moves (λ node x y. divided node remainder_of x y) (index_of a) (index_of b) (λ n m y z x. quotient_moves remainder_of n m y z x) (moves a) (moves b)

pub extents_move : (i j : ℕ) (es : List Ix) (n m : ℕ) (names : List ℤ) (ns : List ℤ) → extents_of i es n names ≡ Ok ns → extents_of j es m names ≡ Ok ns
extents_move i j [] n m names ns e = e
extents_move i j (x ∷ es) n m names ns e =
    let p = bind_ok (index_value x n names) (λ y. (if int_lt y (pos 1) then Err (Extent i) else extents_of i es (n + nodes_of_ix x) names) >>= (λ ys. Ok (y ∷ ys))) ns e in
    let q = bind_ok (if int_lt p.0 (pos 1) then Err (Extent i) else extents_of i es (n + nodes_of_ix x) names) (λ ys. Ok (p.0 ∷ ys)) ns p.2 in
    let tail : (if int_lt p.0 (pos 1) then Err (Extent j) else extents_of j es (m + nodes_of_ix x) names) ≡ Ok q.0 =
    elim (int_lt p.0 (pos 1)) as (λ (b : Bool). (if b then Err (Extent i) else extents_of i es (n + nodes_of_ix x) names) ≡ Ok q.0 → (if b then Err (Extent j) else extents_of j es (m + nodes_of_ix x) names) ≡ Ok q.0) [
      | true ↦ λ h. absurd (subst IsOk (sym h) tt)
      | false ↦ λ h. extents_move i j es (n + nodes_of_ix x) (m + nodes_of_ix x) names q.0 h
    ] q.1
    in
    ap (λ r. r >>= (λ y. (if int_lt y (pos 1) then Err (Extent j) else extents_of j es (m + nodes_of_ix x) names) >>= (λ ys. Ok (y ∷ ys)))) (moves x n m names p.0 p.1)
    ∙ ap (λ r. r >>= (λ ys. Ok (p.0 ∷ ys))) tail ∙ q.2

pub each_is : (i : ℕ) (ds : List Decl) (node : ℕ) (names : List ℤ) (es : List (List ℤ)) → all_extents i ds node names ≡ Ok es → each_extents i ds names ≡ es
each_is i [] node names es e = same_ok [] es e
each_is i (d ∷ ds) node names es e =
    let p = bind_ok (extents_of i d.extents node names) (λ ns. all_extents (i + 1) ds (node + sum_by nodes_of_ix d.extents) names >>= (λ rest. Ok (ns ∷ rest))) es e in
    let q = bind_ok (all_extents (i + 1) ds (node + sum_by nodes_of_ix d.extents) names) (λ rest. Ok (p.0 ∷ rest)) es p.2 in
    let next : suc i ≡ i + 1 = omega arith in
    ap (λ ns. own_extents ns ∷ each_extents (suc i) ds names) (extents_move i i d.extents node 0 names p.0 p.1)
    ∙ ap (λ l. p.0 ∷ l) (ap (λ n. each_extents n ds names) next ∙ each_is (i + 1) ds (node + sum_by nodes_of_ix d.extents) names q.0 q.1) ∙ same_ok (p.0 ∷ q.0) es q.2

-- ---- More names

abbrev Keeps : Index → List ℤ → List ℤ → Type 0
Keeps a names more = (node : ℕ) → a.value node names ≡ a.value node (names ++ more)

one_keeps : (f : ℕ → ℤ → Result ℤ Cause) (a : Index) (names more : List ℤ) → Keeps a names more → Keeps (on_one f a) names more
one_keeps f a names more h node = ap (λ r. r >>= f node) (h (node + 1))

both_keep : (f : ℕ → ℤ → ℤ → Result ℤ Cause) (a b : Index) (names more : List ℤ) → Keeps a names more → Keeps b names more → Keeps (on_both f a b) names more
both_keep f a b names more h k node = λ i. h (node + 1) i >>= (λ x. k (node + 1 + a.nodes) i >>= f node x)

below_so : (a b : ℕ) → nat_lt a b ≡ true → a < b
below_so a b e = grind (arith, nat_tests)

pub keeps : (e : Ix) (names more : List ℤ) → holds_earlier e (length names) ≡ true → Keeps (index_of e) names more
keeps (c.Lit z) names more h = λ node. refl
keeps (c.Name z) names more h = λ node. ap (λ v. Ok v) (sym (get_or_append_left names more (pos 0) z.0 (below_so z.0 (length names) h)))
keeps (c.Neg' s (more_of-Ix a end_of-Ix)) names more h = one_keeps (λ node x. in_int64 node (neg_ℤ x)) (index_of a) names more (keeps a names more h)
keeps (c.Floord' s (more_of-Ix a end_of-Ix) z) names more h = one_keeps (λ node x. divided node floor_of x z) (index_of a) names more (keeps a names more h)
keeps (c.Ceild' s (more_of-Ix a end_of-Ix) z) names more h = one_keeps (λ node x. divided node ceiling_of x z) (index_of a) names more (keeps a names more h)
keeps (c.Add' s (more_of-Ix a end_of-Ix) t (more_of-Ix b end_of-Ix)) names more h = let p = and_parts (holds_earlier a (length names)) (holds_earlier b (length names)) h in both_keep (λ node x y. in_int64 node (x +ℤ y)) (index_of a) (index_of b) names more (keeps a names more p.0) (keeps b names more p.1)
keeps (c.Sub' s (more_of-Ix a end_of-Ix) t (more_of-Ix b end_of-Ix)) names more h = let p = and_parts (holds_earlier a (length names)) (holds_earlier b (length names)) h in both_keep (λ node x y. in_int64 node (x -ℤ y)) (index_of a) (index_of b) names more (keeps a names more p.0) (keeps b names more p.1)
keeps (c.Mul' s (more_of-Ix a end_of-Ix) t (more_of-Ix b end_of-Ix)) names more h = let p = and_parts (holds_earlier a (length names)) (holds_earlier b (length names)) h in both_keep (λ node x y. in_int64 node (x *ℤ y)) (index_of a) (index_of b) names more (keeps a names more p.0) (keeps b names more p.1)
keeps (c.Min' s (more_of-Ix a end_of-Ix) t (more_of-Ix b end_of-Ix)) names more h = let p = and_parts (holds_earlier a (length names)) (holds_earlier b (length names)) h in both_keep (λ node x y. Ok (int_min x y)) (index_of a) (index_of b) names more (keeps a names more p.0) (keeps b names more p.1)
keeps (c.Max' s (more_of-Ix a end_of-Ix) t (more_of-Ix b end_of-Ix)) names more h = let p = and_parts (holds_earlier a (length names)) (holds_earlier b (length names)) h in both_keep (λ node x y. Ok (int_max x y)) (index_of a) (index_of b) names more (keeps a names more p.0) (keeps b names more p.1)
keeps (c.Mod' s (more_of-Ix a end_of-Ix) t (more_of-Ix b end_of-Ix)) names more h = let p = and_parts (holds_earlier a (length names)) (holds_earlier b (length names)) h in both_keep (λ node x y. divided node remainder_of x y) (index_of a) (index_of b) names more (keeps a names more p.0) (keeps b names more p.1)

pub extents_keep : (i : ℕ) (es : List Ix) (node : ℕ) (names more : List ℤ) → all_earlier es (length names) ≡ true → extents_of i es node names ≡ extents_of i es node (names ++ more)
extents_keep i [] node names more h = refl
extents_keep i (x ∷ es) node names more h =
    let p = and_parts (holds_earlier x (length names)) (all_earlier es (length names)) h in
    λ k. keeps x names more p.0 node k >>= (λ y. (if int_lt y (pos 1) then Err (Extent i) else extents_keep i es (node + nodes_of_ix x) names more p.1 k) >>= (λ ys. Ok (y ∷ ys)))

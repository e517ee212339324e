-- What is read of an expression is read of the moved one too, at any node.
use Rattle.std.proofs.Common.{◌≡◌, ℕ, ◌+◌, ℤ, pos, ◌+ℤ◌, ◌-ℤ◌, ◌*ℤ◌, neg_ℤ, Bool, true, false, if◌then◌else◌, int_lt, List, [], ◌∷◌, ◌++◌, length, get_or, map, Result, Ok, Err, sym, ap, subst, ◌∙◌}
use Rattle.std.specs.Int.{int_max, int_min}
use denote.Hole.Carrier.{hidden}
use Rattle.affc_ast.specs.declared.tree.Ix.{Ix}
use Rattle.affc_ast.specs.declared.tree.Ix.TheVariants as c
use Rattle.affc_ast.specs.declared.tree.Ix.TheBlock.{more_of-Ix, end_of-Ix}
use Rattle.affc_ast.specs.declared.tree.Val.{Val}
use Rattle.affc_ast.specs.declared.tree.Val.TheVariants as v
use Rattle.affc_ast.specs.declared.tree.Val.TheBlock.{more_of-Val, end_of-Val, shape-the_row-Val-0, hidden-the_row-Val-0}
use Rattle.affc_ast.specs.Cause.{Cause, Overflow, ◌>>=◌}
use Rattle.affc_ast.specs.Fits.{whole}
use Rattle.affc_ast.specs.Index.{is_int64, in_int64, floor_of, ceiling_of, remainder_of, divided, on_one, on_both, index_step, index_of, index_value, nodes_of_ix}
use Rattle.affc_ast.proofs.Steps.{neg_here, floord_here, ceild_here, add_here, sub_here, mul_here, min_here, max_here, mod_here}
use Rattle.affc_trace.proofs.EndedReads.{bind_ok}
use Rattle.affc_safe.specs.Overflow.{IsReadable, AreReadable, ReadsValue}
use Rattle.affc_safe.proofs.Wants.{bind_to}
use Rattle.affc_loops.specs.Trees.{moved_name, moved, moved_value}
use Rattle.affc_loops.proofs.MovedTrees.{moved_name_is, moved_is}

-- ---- steps at another node

abbrev IsOk : {A : Type 0} → Result A Cause → Type 0
IsOk (Ok x) = Unit {0}
IsOk (Err cause) = ⊥

in_other : (b : Bool) (cause other : Cause) (x y : ℤ) → (if b then Ok x else Err cause) ≡ Ok y → (if b then Ok x else Err other) ≡ Ok y
in_other true cause other x y e = e
in_other false cause other x y e = absurd (subst IsOk (sym e) tt)

in_other_else : (b : Bool) (cause other : Cause) (x y : ℤ) → (if b then Err cause else Ok x) ≡ Ok y → (if b then Err other else Ok x) ≡ Ok y
in_other_else true cause other x y e = absurd (subst IsOk (sym e) tt)
in_other_else false cause other x y e = e

-- where the names that are seen have the values that they had
module _ (old new : List ℤ) (first more : ℕ) (same : (x : ℕ) → get_or new (moved_name first more x) (pos 0) ≡ get_or old x (pos 0)) where
  abbrev to_new : Ix → Ix
  to_new = moved first more

  -- read at any node
  abbrev Moves : Ix → Type 0
  Moves e = (n m : ℕ) (x : ℤ) → index_value e n old ≡ Ok x → index_value (to_new e) m new ≡ Ok x

  moves_one : (a : Ix) (f : ℕ → ℤ → Result ℤ Cause) → ((n m : ℕ) (y z : ℤ) → f n y ≡ Ok z → f m y ≡ Ok z) → Moves a → (n m : ℕ) (x : ℤ)
      → (on_one f (index_of a)).value n old ≡ Ok x → (on_one f (index_of (to_new a))).value m new ≡ Ok x
  moves_one a f any h n m x e =
      let y = bind_ok (index_value a (n + 1) old) _ _ e in
      bind_to (index_value (to_new a) (m + 1) new) y.0 (f m) x (h (n + 1) (m + 1) y.0 y.1) (any n m y.0 x y.2)

  moves_both : (a b : Ix) (f : ℕ → ℤ → ℤ → Result ℤ Cause) → ((n m : ℕ) (y z w : ℤ) → f n y z ≡ Ok w → f m y z ≡ Ok w) → Moves a → Moves b → (n m : ℕ) (x : ℤ)
      → (on_both f (index_of a) (index_of b)).value n old ≡ Ok x → (on_both f (index_of (to_new a)) (index_of (to_new b))).value m new ≡ Ok x
  moves_both a b f any h k n m x e =
      let y = bind_ok (index_value a (n + 1) old) _ _ e in
      let z = bind_ok (index_value b (n + 1 + nodes_of_ix a) old) _ _ y.2 in
      bind_to (index_value (to_new a) (m + 1) new) y.0 (λ y. index_value (to_new b) (m + 1 + nodes_of_ix (to_new a)) new >>= f m y) x (h (n + 1) (m + 1) y.0 y.1)
      (bind_to (index_value (to_new b) (m + 1 + nodes_of_ix (to_new a)) new) z.0 (f m y.0) x (k _ _ z.0 z.1) (any n m y.0 z.0 x z.2))

  pub moves : (e : Ix) → Moves e
  moves (c.Lit k) n m x e = e
  moves (c.Name k) n m x e = ap (λ z. Ok z) (same k.0) ∙ e
  moves (c.Neg' s (more_of-Ix a end_of-Ix)) n m x e =
      ap (λ i. i.value m new) (neg_here index_step (to_new a)) ∙ moves_one a (λ k y. in_int64 k (neg_ℤ y)) (λ i j y z. in_other (is_int64 (neg_ℤ y)) (Overflow i) (Overflow j) (neg_ℤ y) z) (moves a) n m x e
  moves (c.Floord' s (more_of-Ix a end_of-Ix) d) n m x e =
      ap (λ i. i.value m new) (floord_here index_step (to_new a) d) ∙ moves_one a (λ k y. divided k floor_of y d) (λ i j y z. in_other_else (int_lt d (pos 1)) (Overflow i) (Overflow j) (floor_of y d) z) (moves a) n m x e
  moves (c.Ceild' s (more_of-Ix a end_of-Ix) d) n m x e =
      ap (λ i. i.value m new) (ceild_here index_step (to_new a) d) ∙ moves_one a (λ k y. divided k ceiling_of y d) (λ i j y z. in_other_else (int_lt d (pos 1)) (Overflow i) (Overflow j) (ceiling_of y d) z) (moves a) n m x e
  moves (c.Add' s (more_of-Ix a end_of-Ix) t (more_of-Ix b end_of-Ix)) n m x e =
      ap (λ i. i.value m new) (add_here index_step (to_new a) (to_new b)) ∙ moves_both a b (λ k y z. in_int64 k (y +ℤ z)) (λ i j y z w. in_other (is_int64 (y +ℤ z)) (Overflow i) (Overflow j) (y +ℤ z) w) (moves a) (moves b) n m x e
  moves (c.Sub' s (more_of-Ix a end_of-Ix) t (more_of-Ix b end_of-Ix)) n m x e =
      ap (λ i. i.value m new) (sub_here index_step (to_new a) (to_new b)) ∙ moves_both a b (λ k y z. in_int64 k (y -ℤ z)) (λ i j y z w. in_other (is_int64 (y -ℤ z)) (Overflow i) (Overflow j) (y -ℤ z) w) (moves a) (moves b) n m x e
  moves (c.Mul' s (more_of-Ix a end_of-Ix) t (more_of-Ix b end_of-Ix)) n m x e =
      ap (λ i. i.value m new) (mul_here index_step (to_new a) (to_new b)) ∙ moves_both a b (λ k y z. in_int64 k (y *ℤ z)) (λ i j y z w. in_other (is_int64 (y *ℤ z)) (Overflow i) (Overflow j) (y *ℤ z) w) (moves a) (moves b) n m x e
  moves (c.Min' s (more_of-Ix a end_of-Ix) t (more_of-Ix b end_of-Ix)) n m x e =
      ap (λ i. i.value m new) (min_here index_step (to_new a) (to_new b)) ∙ moves_both a b (λ k y z. Ok (int_min y z)) (λ i j y z w h. h) (moves a) (moves b) n m x e
  moves (c.Max' s (more_of-Ix a end_of-Ix) t (more_of-Ix b end_of-Ix)) n m x e =
      ap (λ i. i.value m new) (max_here index_step (to_new a) (to_new b)) ∙ moves_both a b (λ k y z. Ok (int_max y z)) (λ i j y z w h. h) (moves a) (moves b) n m x e
  moves (c.Mod' s (more_of-Ix a end_of-Ix) t (more_of-Ix b end_of-Ix)) n m x e =
      ap (λ i. i.value m new) (mod_here index_step (to_new a) (to_new b)) ∙ moves_both a b (λ k y z. divided k remainder_of y z) (λ i j y z w. in_other_else (int_lt z (pos 1)) (Overflow i) (Overflow j) (remainder_of y z) w) (moves a) (moves b) n m x e

-- ---- whole numbers at any node

-- values whose subscripts and casts are read
pub reads_not : (a : Val) (names : List ℤ) → ReadsValue a names → ReadsValue (v.Not a) names
unfolding shape-the_row-Val-0 hidden-the_row-Val-0 hidden
reads_not a names r = r

pub reads_shift : (left : Bool) (a : Val) (by : ℕ) (names : List ℤ) → ReadsValue a names → ReadsValue (v.Shift left a by) names
unfolding shape-the_row-Val-0 hidden-the_row-Val-0 hidden
reads_shift left a by names r = r

pub reads_bin : (op : _) (a b : Val) (names : List ℤ) → ReadsValue a names → ReadsValue b names → ReadsValue (v.Bin op a b) names
unfolding shape-the_row-Val-0 hidden-the_row-Val-0 hidden
reads_bin op a b names r q = (r, q)

module _ (p t rest : List ℤ) where
  abbrev new_names : List ℤ
  new_names = p ++ (t ++ rest)

  abbrev old_names : List ℤ
  old_names = p ++ rest

  pub readable_moves : (e : Ix) → IsReadable e old_names → IsReadable (moved (length p) (length t) e) new_names
  readable_moves e r node = moves old_names new_names (length p) (length t) (moved_name_is p t rest) e 0 node (whole e old_names) (r 0) ∙ ap (λ z. Ok z) (sym (moved_is p t rest e))

  pub all_readable_move : (es : List Ix) → AreReadable es old_names → AreReadable (map (moved (length p) (length t)) es) new_names
  all_readable_move [] r = tt
  all_readable_move (e ∷ es) r = (readable_moves e r.0, all_readable_move es r.1)

  pub value_moves : (e : Val) → ReadsValue e old_names → ReadsValue (moved_value (length p) (length t) e) new_names
  value_moves (v.Load array subs) r = all_readable_move subs r
  value_moves (v.Const n) r = tt
  value_moves (v.Cast e) r = readable_moves e r
  value_moves (v.Not' s (more_of-Val a end_of-Val)) r = reads_not (moved_value (length p) (length t) a) new_names (value_moves a r)
  value_moves (v.Shift' left s (more_of-Val a end_of-Val) by) r = reads_shift left (moved_value (length p) (length t) a) by new_names (value_moves a r)
  value_moves (v.Bin' op s (more_of-Val a end_of-Val) s' (more_of-Val b end_of-Val)) r =
      reads_bin op (moved_value (length p) (length t) a) (moved_value (length p) (length t) b) new_names (value_moves a r.0) (value_moves b r.1)

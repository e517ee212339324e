-- Operators in a row.
use Rattle.std.proofs.Common.{◌≡◌, ℕ, zero, suc, ◌+◌, ◌<◌, ◌≤◌, ℤ, List, [], Result, Err, refl, sym, ap, ◌∙◌, arith}
use denote.Hole.Carrier.{out, shown}
use Rattle.affc_ast.specs.declared.tree.Instance.{Instance}
use Rattle.affc_ast.specs.declared.tree.Ix.{Ix, out-Ix}
use Rattle.affc_ast.specs.declared.tree.Ix.TheVariants as c
use Rattle.affc_ast.specs.declared.tree.Ix.TheBlock.{more_of-Ix, end_of-Ix, shown-the_row-Ix-0}
use Rattle.affc_ast.specs.declared.tree.Val.{Val, out-Val}
use Rattle.affc_ast.specs.declared.tree.Val.TheVariants as v
use Rattle.affc_ast.specs.declared.tree.Val.TheBlock.{more_of-Val, end_of-Val, shown-the_row-Val-0}
use Rattle.affc_ast.specs.Cause.{Cause, ◌>>=◌}
use Rattle.affc_ast.specs.Index.{nodes_of_ix, index_value}
use Rattle.affc_ast.specs.Values.{value_of}
use Rattle.affc_interp.specs.Layout.{Held}
use Rattle.affc_interp.specs.Operands.{below, first_operand, operators, first_value, value_operators}
use Rattle.affc_interp.specs.Seen.{sight_at}

pub below_more : {A : Type 0} (first : A → A) (m n : ℕ) (e : A) → below first (m + n) e ≡ below first n (below first m e)
below_more first zero n e = let z : 0 + n ≡ n = omega arith in ap (λ k. below first k e) z
below_more first (suc m) n e = let z : suc m + n ≡ suc (m + n) = omega arith in ap (λ k. below first k e) z ∙ below_more first m n (first e)

bind_stuck : {A B : Type 0} (r : Result A Cause) (g : A → Result B Cause) (c : Cause) → r ≡ Err c → r >>= g ≡ Err c
bind_stuck r g c e = ap (λ q. q >>= g) e

-- what an outermost operator adds to its first operand
pub record Adds {A B : Type 0} (first : A → A) (row nodes : A → ℕ) (read : A → ℕ → Result B Cause) (e : A) : Type 0 where
  pub fewer : row e ≡ suc (row (first e))
  pub smaller : nodes (first e) < nodes e
  pub stuck : (n : ℕ) (c : Cause) → read (first e) (n + 1) ≡ Err c → read e n ≡ Err c

module _ {A B : Type 0} (first : A → A) (row nodes : A → ℕ) (read : A → ℕ → Result B Cause) (adds : (e : A) → 1 ≤ row e → Adds first row nodes read e) where
  pub row_below : (k : ℕ) (e : A) → k ≤ row e → row e ≡ k + row (below first k e)
  row_below zero e h = omega arith
  row_below (suc k) e h = let a = (adds e (omega arith)).fewer in let r = row_below k (first e) (omega (arith, a, h)) in omega (arith, a, r)

  pub nodes_below : (k : ℕ) (e : A) → k ≤ row e → nodes (below first k e) + k ≤ nodes e
  nodes_below zero e h = omega arith
  nodes_below (suc k) e h =
      let a = adds e (omega arith) in
      let r = nodes_below k (first e) (let f = a.fewer in omega (arith, f, h)) in
      let s = a.smaller in
      omega (arith, s, r)

  pub stuck_below : (k : ℕ) (e : A) (n : ℕ) (c : Cause) → k ≤ row e → read (below first k e) (n + k) ≡ Err c → read e n ≡ Err c
  stuck_below zero e n c h s = let z : n ≡ n + 0 = omega arith in ap (read e) z ∙ s
  stuck_below (suc k) e n c h s =
      let a = adds e (omega arith) in
      let z : n + 1 + k ≡ n + suc k = omega arith in
      a.stuck n c (stuck_below k (first e) (n + 1) c (let f = a.fewer in omega (arith, f, h)) (ap (read (below first k (first e))) z ∙ s))

  -- what stands h down, on the way to what stands h + j down
  pub record Way (e m : A) (h j n : ℕ) : Type 0 where
    pub fewer : row e ≡ h + row m
    pub smaller : nodes m + h ≤ nodes e
    pub less : nodes (below first j m) + j ≤ nodes m
    pub rest : nodes (below first j m) ≤ nodes m
    pub inner : below first (h + j) e ≡ below first j m
    pub read_on : read (below first (h + j) e) (n + (h + j)) ≡ read (below first j m) (n + h + j)

  pub part_way : (e m : A) (h j n : ℕ) → m ≡ below first h e → h + j ≤ row e → Way e m h j n
  part_way e m h j n is le =
      let r : row e ≡ h + row m = row_below h e (omega (arith, le)) ∙ ap (λ x. h + row x) (sym is) in
      let s : nodes m + h ≤ nodes e = let t = nodes_below h e (omega (arith, le)) in let q : nodes m ≡ nodes (below first h e) = ap nodes is in omega (arith, t, q) in
      let t = nodes_below j m (omega (arith, r, le)) in
      let b : below first (h + j) e ≡ below first j m = below_more first h j e ∙ ap (below first j) (sym is) in
      let z : n + (h + j) ≡ n + h + j = omega arith in
      record { fewer = r; smaller = s; less = t; rest = omega (arith, t); inner = b; read_on = λ i. read (b i) (z i) }

  pub fits : (e : A) → 1 ≤ nodes (below first (row e) e) → row e < nodes e
  fits e h = let t = nodes_below (row e) e (omega arith) in omega (arith, h, t)

-- ---- Expressions

abbrev pub read_ix : List ℤ → Ix → ℕ → Result ℤ Cause
read_ix names e node = index_value e node names

pub ix_adds : (names : List ℤ) (e : Ix) → 1 ≤ operators e → Adds first_operand operators nodes_of_ix (read_ix names) e
unfolding out-Ix out shown-the_row-Ix-0 shown
ix_adds names (c.Lit n) h = absurd (omega arith)
ix_adds names (c.Name x) h = absurd (omega arith)
ix_adds names (c.Neg' s (more_of-Ix a end_of-Ix)) h = record { fewer = refl; smaller = omega arith; stuck = λ n c e. bind_stuck _ _ c e }
ix_adds names (c.Floord' s (more_of-Ix a end_of-Ix) d) h = record { fewer = refl; smaller = omega arith; stuck = λ n c e. bind_stuck _ _ c e }
ix_adds names (c.Ceild' s (more_of-Ix a end_of-Ix) d) h = record { fewer = refl; smaller = omega arith; stuck = λ n c e. bind_stuck _ _ c e }
ix_adds names (c.Add' s (more_of-Ix a end_of-Ix) t (more_of-Ix b end_of-Ix)) h = record { fewer = refl; smaller = omega arith; stuck = λ n c e. bind_stuck _ _ c e }
ix_adds names (c.Sub' s (more_of-Ix a end_of-Ix) t (more_of-Ix b end_of-Ix)) h = record { fewer = refl; smaller = omega arith; stuck = λ n c e. bind_stuck _ _ c e }
ix_adds names (c.Mul' s (more_of-Ix a end_of-Ix) t (more_of-Ix b end_of-Ix)) h = record { fewer = refl; smaller = omega arith; stuck = λ n c e. bind_stuck _ _ c e }
ix_adds names (c.Min' s (more_of-Ix a end_of-Ix) t (more_of-Ix b end_of-Ix)) h = record { fewer = refl; smaller = omega arith; stuck = λ n c e. bind_stuck _ _ c e }
ix_adds names (c.Max' s (more_of-Ix a end_of-Ix) t (more_of-Ix b end_of-Ix)) h = record { fewer = refl; smaller = omega arith; stuck = λ n c e. bind_stuck _ _ c e }
ix_adds names (c.Mod' s (more_of-Ix a end_of-Ix) t (more_of-Ix b end_of-Ix)) h = record { fewer = refl; smaller = omega arith; stuck = λ n c e. bind_stuck _ _ c e }

-- ---- Values

abbrev pub read_value : (access : ℕ) → List ℤ → Held → Instance → Val → ℕ → Result ℕ Cause
read_value access names memory here x node = (value_of x).value (sight_at node access names memory here)

abbrev pub value_nodes : Val → ℕ
value_nodes x = (value_of x).nodes

pub value_adds : (access : ℕ) (names : List ℤ) (memory : Held) (here : Instance) (x : Val) → 1 ≤ value_operators x → Adds first_value value_operators value_nodes (read_value access names memory here) x
unfolding out-Val out shown-the_row-Val-0 shown
value_adds access names memory here (v.Load array subs) h = absurd (omega arith)
value_adds access names memory here (v.Const n) h = absurd (omega arith)
value_adds access names memory here (v.Cast e) h = absurd (omega arith)
value_adds access names memory here (v.Not' s (more_of-Val a end_of-Val)) h = record { fewer = refl; smaller = omega arith; stuck = λ n c e. bind_stuck _ _ c e }
value_adds access names memory here (v.Bin' op s (more_of-Val a end_of-Val) t (more_of-Val b end_of-Val)) h = record { fewer = refl; smaller = omega arith; stuck = λ n c e. bind_stuck _ _ c e }
value_adds access names memory here (v.Shift' left s (more_of-Val a end_of-Val) by) h = record { fewer = refl; smaller = omega arith; stuck = λ n c e. bind_stuck _ _ c e }

-- ---- The nodes of both

pub some_nodes_ix : (e : Ix) → 1 ≤ nodes_of_ix e
some_nodes_ix (c.Lit n) = omega arith
some_nodes_ix (c.Name x) = omega arith
some_nodes_ix (c.Neg' s (more_of-Ix a end_of-Ix)) = omega arith
some_nodes_ix (c.Floord' s (more_of-Ix a end_of-Ix) n) = omega arith
some_nodes_ix (c.Ceild' s (more_of-Ix a end_of-Ix) n) = omega arith
some_nodes_ix (c.Add' s (more_of-Ix a end_of-Ix) t (more_of-Ix b end_of-Ix)) = omega arith
some_nodes_ix (c.Sub' s (more_of-Ix a end_of-Ix) t (more_of-Ix b end_of-Ix)) = omega arith
some_nodes_ix (c.Mul' s (more_of-Ix a end_of-Ix) t (more_of-Ix b end_of-Ix)) = omega arith
some_nodes_ix (c.Min' s (more_of-Ix a end_of-Ix) t (more_of-Ix b end_of-Ix)) = omega arith
some_nodes_ix (c.Max' s (more_of-Ix a end_of-Ix) t (more_of-Ix b end_of-Ix)) = omega arith
some_nodes_ix (c.Mod' s (more_of-Ix a end_of-Ix) t (more_of-Ix b end_of-Ix)) = omega arith

pub some_nodes_value : (x : Val) → 1 ≤ value_nodes x
some_nodes_value (v.Load array subs) = omega arith
some_nodes_value (v.Const n) = omega arith
some_nodes_value (v.Cast e) = omega arith
some_nodes_value (v.Not' s (more_of-Val a end_of-Val)) = omega arith
some_nodes_value (v.Bin' op s (more_of-Val a end_of-Val) t (more_of-Val b end_of-Val)) = omega arith
some_nodes_value (v.Shift' left s (more_of-Val a end_of-Val) by) = omega arith

module _ (names : List ℤ) (e m : Ix) (h n : ℕ) (is : m ≡ below first_operand h e) where
  pub ix_part : (j : ℕ) → h + j ≤ operators e → Way first_operand operators nodes_of_ix (read_ix names) (ix_adds names) e m h j n
  ix_part j le = part_way first_operand operators nodes_of_ix (read_ix names) (ix_adds names) e m h j n is le

  pub ix_stuck : (cause : Cause) → h ≤ operators e → Err cause ≡ index_value m (n + h) names → Err cause ≡ index_value e n names
  ix_stuck cause le s = sym (stuck_below first_operand operators nodes_of_ix (read_ix names) (ix_adds names) h e n cause le (ap (λ x. index_value x (n + h) names) (sym is) ∙ sym s))

pub ix_row_fits : (e : Ix) → operators e < nodes_of_ix e
ix_row_fits e = fits first_operand operators nodes_of_ix (read_ix []) (ix_adds []) e (some_nodes_ix (below first_operand (operators e) e))

module _ (access : ℕ) (names : List ℤ) (memory : Held) (here : Instance) (e m : Val) (h n : ℕ) (is : m ≡ below first_value h e) where
  pub value_part : (j : ℕ) → h + j ≤ value_operators e → Way first_value value_operators value_nodes (read_value access names memory here) (value_adds access names memory here) e m h j n
  value_part j le = part_way first_value value_operators value_nodes (read_value access names memory here) (value_adds access names memory here) e m h j n is le

  pub value_stuck : (cause : Cause) → h ≤ value_operators e → Err cause ≡ (value_of m).value (sight_at (n + h) access names memory here) → Err cause ≡ (value_of e).value (sight_at n access names memory here)
  value_stuck cause le s =
      sym (stuck_below first_value value_operators value_nodes (read_value access names memory here) (value_adds access names memory here) h e n cause le
      (ap (λ x. (value_of x).value (sight_at (n + h) access names memory here)) (sym is) ∙ sym s))

first_loads : (x : Val) → (value_of (first_value x)).loads ≤ (value_of x).loads
unfolding out-Val out shown-the_row-Val-0 shown
first_loads (v.Load array subs) = omega arith
first_loads (v.Const n) = omega arith
first_loads (v.Cast e) = omega arith
first_loads (v.Not' s (more_of-Val a end_of-Val)) = omega arith
first_loads (v.Bin' op s (more_of-Val a end_of-Val) t (more_of-Val b end_of-Val)) = omega arith
first_loads (v.Shift' left s (more_of-Val a end_of-Val) by) = omega arith

-- what stands further down has no more loads
pub loads_below : (k : ℕ) (e : Val) → (value_of (below first_value k e)).loads ≤ (value_of e).loads
loads_below zero e = omega arith
loads_below (suc k) e = let h = loads_below k (first_value e) in let f = first_loads e in omega (arith, h, f)

pub value_row_fits : (e : Val) → value_operators e < (value_of e).nodes
value_row_fits e = fits first_value value_operators value_nodes (read_value 0 [] (record { extents = []; store = [] }) (record { statement = 0; iterators = [] })) (value_adds 0 [] (record { extents = []; store = [] }) (record { statement = 0; iterators = [] })) e (some_nodes_value (below first_value (value_operators e) e))

-- A function on trees by one step at each kind of expression, value and statement; and a list of statements as a row.
use Rattle.std.proofs.Common.{◌≡◌, ℕ, ℤ, Bool, List, [], ◌∷◌, ◌++◌, map, flat_map, refl, ap, ◌∙◌, rules, arith}
use mathlib.Core.Former.{Count, none_left, one_more}
use Rattle.affc_ast.specs.declared.tree.Cond.{Cond, out-Cond, map-Cond, the_lemmas as cond_lemmas}
use Rattle.affc_ast.specs.declared.tree.Cond.TheVariants as d
use Rattle.affc_ast.specs.declared.tree.Cond.TheOpen as layer_d
use Rattle.affc_ast.specs.declared.tree.Cond.TheOpen.{Cond-F}
use Rattle.affc_ast.specs.declared.tree.Instance.{Instance}
use Rattle.affc_ast.specs.declared.tree.Ix.{Ix, out-Ix, map-Ix, the_lemmas as ix_lemmas}
use Rattle.affc_ast.specs.declared.tree.Ix.TheVariants.{Neg, Add, Sub, Mul, Min, Max, Floord, Ceild, Mod}
use Rattle.affc_ast.specs.declared.tree.Ix.TheOpen as layer
use Rattle.affc_ast.specs.declared.tree.Ix.TheOpen.{Ix-F}
use Rattle.affc_ast.specs.declared.tree.Local.{Local}
use Rattle.affc_ast.specs.declared.tree.Op.{Op}
use Rattle.affc_ast.specs.declared.tree.Rel.{Rel}
use Rattle.affc_ast.specs.declared.tree.Stmt.{Stmt, out-Stmt, map-Stmt, the_lemmas as stmt_lemmas}
use Rattle.affc_ast.specs.declared.tree.Stmt.TheVariants.{For, If, Block}
use Rattle.affc_ast.specs.declared.tree.Stmt.TheBlock.{Row_of-Stmt, more_of-Stmt, end_of-Stmt}
use Rattle.affc_ast.specs.declared.tree.Stmt.TheOpen as layer_s
use Rattle.affc_ast.specs.declared.tree.Stmt.TheOpen.{Stmt-F}
use Rattle.affc_ast.specs.declared.tree.Val.{Val, out-Val, map-Val, the_lemmas as val_lemmas}
use Rattle.affc_ast.specs.declared.tree.Val.TheVariants.{Not, Bin, Shift}
use Rattle.affc_ast.specs.declared.tree.Val.TheOpen as layer_v
use Rattle.affc_ast.specs.declared.tree.Val.TheOpen.{Val-F}
use Rattle.affc_ast.specs.Recursion.{by_ix, by_val, by_cond, by_stmt, by_each}
use Rattle.affc_ast.specs.Trace.{joined}
use Rattle.affc_ast.proofs.Outs.{by_ix_out, by_val_out, by_cond_out, by_stmt_out}

-- ---- Expressions and values

module _ {A : Type 0} (f : Ix-F A → A) where
  neg_row : (a : Ix) → map-Ix Ix A (by_ix f) (out-Ix (Neg a)) ≡ layer.Neg (by_ix f a)
  neg_row a = first_of (simp ix_lemmas, grind (arith, ix_lemmas), search (rules, ix_lemmas))

  floord_row : (a : Ix) (n : ℤ) → map-Ix Ix A (by_ix f) (out-Ix (Floord a n)) ≡ layer.Floord (by_ix f a) n
  floord_row a n = first_of (simp ix_lemmas, grind (arith, ix_lemmas), search (rules, ix_lemmas))

  ceild_row : (a : Ix) (n : ℤ) → map-Ix Ix A (by_ix f) (out-Ix (Ceild a n)) ≡ layer.Ceild (by_ix f a) n
  ceild_row a n = first_of (simp ix_lemmas, grind (arith, ix_lemmas), search (rules, ix_lemmas))

  add_row : (a b : Ix) → map-Ix Ix A (by_ix f) (out-Ix (Add a b)) ≡ layer.Add (by_ix f a) (by_ix f b)
  add_row a b = first_of (simp ix_lemmas, grind (arith, ix_lemmas), search (rules, ix_lemmas))

  sub_row : (a b : Ix) → map-Ix Ix A (by_ix f) (out-Ix (Sub a b)) ≡ layer.Sub (by_ix f a) (by_ix f b)
  sub_row a b = first_of (simp ix_lemmas, grind (arith, ix_lemmas), search (rules, ix_lemmas))

  mul_row : (a b : Ix) → map-Ix Ix A (by_ix f) (out-Ix (Mul a b)) ≡ layer.Mul (by_ix f a) (by_ix f b)
  mul_row a b = first_of (simp ix_lemmas, grind (arith, ix_lemmas), search (rules, ix_lemmas))

  min_row : (a b : Ix) → map-Ix Ix A (by_ix f) (out-Ix (Min a b)) ≡ layer.Min (by_ix f a) (by_ix f b)
  min_row a b = first_of (simp ix_lemmas, grind (arith, ix_lemmas), search (rules, ix_lemmas))

  max_row : (a b : Ix) → map-Ix Ix A (by_ix f) (out-Ix (Max a b)) ≡ layer.Max (by_ix f a) (by_ix f b)
  max_row a b = first_of (simp ix_lemmas, grind (arith, ix_lemmas), search (rules, ix_lemmas))

  mod_row : (a b : Ix) → map-Ix Ix A (by_ix f) (out-Ix (Mod a b)) ≡ layer.Mod (by_ix f a) (by_ix f b)
  mod_row a b = first_of (simp ix_lemmas, grind (arith, ix_lemmas), search (rules, ix_lemmas))

  pub neg_here : (a : Ix) → by_ix f (Neg a) ≡ f (layer.Neg (by_ix f a))
  neg_here a = by_ix_out f (Neg a) ∙ ap f (neg_row a)

  pub floord_here : (a : Ix) (n : ℤ) → by_ix f (Floord a n) ≡ f (layer.Floord (by_ix f a) n)
  floord_here a n = by_ix_out f (Floord a n) ∙ ap f (floord_row a n)

  pub ceild_here : (a : Ix) (n : ℤ) → by_ix f (Ceild a n) ≡ f (layer.Ceild (by_ix f a) n)
  ceild_here a n = by_ix_out f (Ceild a n) ∙ ap f (ceild_row a n)

  pub add_here : (a b : Ix) → by_ix f (Add a b) ≡ f (layer.Add (by_ix f a) (by_ix f b))
  add_here a b = by_ix_out f (Add a b) ∙ ap f (add_row a b)

  pub sub_here : (a b : Ix) → by_ix f (Sub a b) ≡ f (layer.Sub (by_ix f a) (by_ix f b))
  sub_here a b = by_ix_out f (Sub a b) ∙ ap f (sub_row a b)

  pub mul_here : (a b : Ix) → by_ix f (Mul a b) ≡ f (layer.Mul (by_ix f a) (by_ix f b))
  mul_here a b = by_ix_out f (Mul a b) ∙ ap f (mul_row a b)

  pub min_here : (a b : Ix) → by_ix f (Min a b) ≡ f (layer.Min (by_ix f a) (by_ix f b))
  min_here a b = by_ix_out f (Min a b) ∙ ap f (min_row a b)

  pub max_here : (a b : Ix) → by_ix f (Max a b) ≡ f (layer.Max (by_ix f a) (by_ix f b))
  max_here a b = by_ix_out f (Max a b) ∙ ap f (max_row a b)

  pub mod_here : (a b : Ix) → by_ix f (Mod a b) ≡ f (layer.Mod (by_ix f a) (by_ix f b))
  mod_here a b = by_ix_out f (Mod a b) ∙ ap f (mod_row a b)

module _ {A : Type 0} (f : Val-F A → A) where
  not_row : (a : Val) → map-Val Val A (by_val f) (out-Val (Not a)) ≡ layer_v.Not (by_val f a)
  not_row a = first_of (simp val_lemmas, grind (arith, val_lemmas), search (rules, val_lemmas))

  bin_row : (op : Op) (a b : Val) → map-Val Val A (by_val f) (out-Val (Bin op a b)) ≡ layer_v.Bin op (by_val f a) (by_val f b)
  bin_row op a b = first_of (simp val_lemmas, grind (arith, val_lemmas), search (rules, val_lemmas))

  shift_row : (left : Bool) (a : Val) (by : ℕ) → map-Val Val A (by_val f) (out-Val (Shift left a by)) ≡ layer_v.Shift left (by_val f a) by
  shift_row left a by = first_of (simp val_lemmas, grind (arith, val_lemmas), search (rules, val_lemmas))

  pub not_here : (a : Val) → by_val f (Not a) ≡ f (layer_v.Not (by_val f a))
  not_here a = by_val_out f (Not a) ∙ ap f (not_row a)

  pub bin_here : (op : Op) (a b : Val) → by_val f (Bin op a b) ≡ f (layer_v.Bin op (by_val f a) (by_val f b))
  bin_here op a b = by_val_out f (Bin op a b) ∙ ap f (bin_row op a b)

  pub shift_here : (left : Bool) (a : Val) (by : ℕ) → by_val f (Shift left a by) ≡ f (layer_v.Shift left (by_val f a) by)
  shift_here left a by = by_val_out f (Shift left a by) ∙ ap f (shift_row left a by)

-- ---- Conditions

module _ {A : Type 0} (f : Cond-F A → A) where
  all_row : (cs : List Cond) → map-Cond Cond A (by_cond f) (out-Cond (d.All cs)) ≡ layer_d.All (map (by_cond f) cs)
  all_row cs = first_of (simp cond_lemmas, grind (arith, cond_lemmas), search (rules, cond_lemmas))

  any_row : (cs : List Cond) → map-Cond Cond A (by_cond f) (out-Cond (d.Any cs)) ≡ layer_d.Any (map (by_cond f) cs)
  any_row cs = first_of (simp cond_lemmas, grind (arith, cond_lemmas), search (rules, cond_lemmas))

  pub all_here : (cs : List Cond) → by_cond f (d.All cs) ≡ f (layer_d.All (map (by_cond f) cs))
  all_here cs = by_cond_out f (d.All cs) ∙ ap f (all_row cs)

  pub any_here : (cs : List Cond) → by_cond f (d.Any cs) ≡ f (layer_d.Any (map (by_cond f) cs))
  any_here cs = by_cond_out f (d.Any cs) ∙ ap f (any_row cs)

-- ---- Statements

module _ {A : Type 0} (f : Stmt-F A → A) where
  for_row : (iter : List ℕ) (low : Ix) (rel : Rel) (high : Ix) (body : List Stmt) → map-Stmt Stmt A (by_stmt f) (out-Stmt (For iter low rel high body)) ≡ layer_s.For iter low rel high (map (by_stmt f) body)
  for_row iter low rel high body = first_of (simp stmt_lemmas, grind (arith, stmt_lemmas), search (rules, stmt_lemmas))

  if_row : (cond : Cond) (body other : List Stmt) → map-Stmt Stmt A (by_stmt f) (out-Stmt (If cond body other)) ≡ layer_s.If cond (map (by_stmt f) body) (map (by_stmt f) other)
  if_row cond body other = first_of (simp stmt_lemmas, grind (arith, stmt_lemmas), search (rules, stmt_lemmas))

  block_row : (locals : List Local) (body : List Stmt) → map-Stmt Stmt A (by_stmt f) (out-Stmt (Block locals body)) ≡ layer_s.Block locals (map (by_stmt f) body)
  block_row locals body = first_of (simp stmt_lemmas, grind (arith, stmt_lemmas), search (rules, stmt_lemmas))

  pub for_here : (iter : List ℕ) (low : Ix) (rel : Rel) (high : Ix) (body : List Stmt) → by_stmt f (For iter low rel high body) ≡ f (layer_s.For iter low rel high (map (by_stmt f) body))
  for_here iter low rel high body = by_stmt_out f (For iter low rel high body) ∙ ap f (for_row iter low rel high body)

  pub if_here : (cond : Cond) (body other : List Stmt) → by_stmt f (If cond body other) ≡ f (layer_s.If cond (map (by_stmt f) body) (map (by_stmt f) other))
  if_here cond body other = by_stmt_out f (If cond body other) ∙ ap f (if_row cond body other)

  pub block_here : (locals : List Local) (body : List Stmt) → by_stmt f (Block locals body) ≡ f (layer_s.Block locals (map (by_stmt f) body))
  block_here locals body = by_stmt_out f (Block locals body) ∙ ap f (block_row locals body)

-- ---- A list of statements as a row

abbrev pub count_of : List Stmt → Count
count_of [] = none_left
count_of (x ∷ xs) = one_more (count_of xs)

abbrev pub row_of : (xs : List Stmt) → Row_of-Stmt (count_of xs)
row_of [] = end_of-Stmt
row_of (x ∷ xs) = more_of-Stmt x (row_of xs)

-- a function by one step gives the same of both
pub unrolled : {A : Type 0} (f : Stmt-F A → A) (xs : List Stmt) → map (by_stmt f) xs ≡ by_each f (row_of xs)
unrolled f [] = refl
unrolled f (x ∷ xs) = ap (λ l. by_stmt f x ∷ l) (unrolled f xs)

pub flat_unrolled : {A : Type 0} (f : Stmt-F (List A) → List A) (xs : List Stmt) → flat_map (by_stmt f) xs ≡ joined (by_each f (row_of xs))
flat_unrolled f [] = refl
flat_unrolled f (x ∷ xs) = ap (λ l. by_stmt f x ++ l) (flat_unrolled f xs)

-- ---- Instances

pub same_instance : (statement : ℕ) (iterators : List ℤ) (b : Instance) → b.statement ≡ statement → b.iterators ≡ iterators → b ≡ record { statement = statement; iterators = iterators }
same_instance statement iterators b e f = λ i. record { statement = e i; iterators = f i }

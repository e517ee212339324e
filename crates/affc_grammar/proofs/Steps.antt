-- Steps of what a draft reads as, and of a function by one step at a tree.
use Rattle.std.proofs.Common.{◌≡◌, ℕ, ℤ, List, map, Bool, Option, Some, None, Ok, Err, refl, ap, ◌∙◌, rules, arith}
use Rattle.affc_ast.specs.declared.tree.Cond.{Cond}
use Rattle.affc_ast.specs.declared.tree.Ix.{Ix, out-Ix, map-Ix, the_lemmas as ix_lemmas}
use Rattle.affc_ast.specs.declared.tree.Ix.TheVariants as ix
use Rattle.affc_ast.specs.declared.tree.Ix.TheOpen as layer_ix
use Rattle.affc_ast.specs.declared.tree.Ix.TheOpen.{Ix-F}
use Rattle.affc_ast.specs.declared.tree.Local.{Local}
use Rattle.affc_ast.specs.declared.tree.Op.{Op}
use Rattle.affc_ast.specs.declared.tree.Rel.{Rel}
use Rattle.affc_ast.specs.declared.tree.Val.{Val, out-Val, map-Val, the_lemmas as val_lemmas}
use Rattle.affc_ast.specs.declared.tree.Val.TheVariants as val
use Rattle.affc_ast.specs.declared.tree.Val.TheOpen as layer_v
use Rattle.affc_ast.specs.declared.tree.Val.TheOpen.{Val-F}
use Rattle.affc_ast.specs.declared.tree.Stmt.{Stmt, out-Stmt, map-Stmt, the_lemmas as stmt_lemmas}
use Rattle.affc_ast.specs.declared.tree.Stmt.TheVariants as stmt
use Rattle.affc_ast.specs.declared.tree.Stmt.TheOpen as layer
use Rattle.affc_ast.specs.declared.tree.Stmt.TheOpen.{Stmt-F}
use Rattle.affc_ast.specs.Recursion.{by_ix, by_val, by_stmt}
use Rattle.affc_ast.proofs.Outs.{by_ix_out, by_val_out, by_stmt_out}
use Rattle.affc_grammar.specs.declared.fault.NameWhy.{NameWhy}
use Rattle.affc_grammar.specs.Names.{Checked, ◌>>=◌, allowed}

-- ---- What is checked

abbrev ok_or : {A : Type 0} → A → Checked A → A
ok_or x (Ok y) = y
ok_or x (Err r) = x

pub ok_of : {A : Type 0} {x y : A} → ◌≡◌ {A = Checked A} (Ok x) (Ok y) → x ≡ y
ok_of {A} {x} {y} e = ap (ok_or x) e

pub then_is : {A B : Type 0} (m : Checked A) (f : A → Checked B) (b : B) → m >>= f ≡ Ok b → (a : A) × (m ≡ Ok a) × (f a ≡ Ok b)
then_is (Ok a) f b e = (a, refl, e)
then_is (Err r) f b e = absurd (cc)

pub allowed_is : {A : Type 0} (why : Option NameWhy) (at : ℕ) (next : Checked A) (a : A) → allowed why at next ≡ Ok a → (why ≡ None) × (next ≡ Ok a)
allowed_is None at next a e = (refl, e)
allowed_is (Some why) at next a e = absurd (cc)

-- ---- A function by one step

module _ {A : Type 0} (f : Ix-F A → A) where
  pub neg_here : (a : Ix) → by_ix f (ix.Neg a) ≡ f (layer_ix.Neg (by_ix f a))
  neg_here a = by_ix_out f (ix.Neg a) ∙ ap f row
    where
      row : map-Ix Ix A (by_ix f) (out-Ix (ix.Neg a)) ≡ layer_ix.Neg (by_ix f a)
      row = first_of (simp ix_lemmas, grind (arith, ix_lemmas), search (rules, ix_lemmas))

  pub add_here : (a b : Ix) → by_ix f (ix.Add a b) ≡ f (layer_ix.Add (by_ix f a) (by_ix f b))
  add_here a b = by_ix_out f (ix.Add a b) ∙ ap f row
    where
      row : map-Ix Ix A (by_ix f) (out-Ix (ix.Add a b)) ≡ layer_ix.Add (by_ix f a) (by_ix f b)
      row = first_of (simp ix_lemmas, grind (arith, ix_lemmas), search (rules, ix_lemmas))

  pub sub_here : (a b : Ix) → by_ix f (ix.Sub a b) ≡ f (layer_ix.Sub (by_ix f a) (by_ix f b))
  sub_here a b = by_ix_out f (ix.Sub a b) ∙ ap f row
    where
      row : map-Ix Ix A (by_ix f) (out-Ix (ix.Sub a b)) ≡ layer_ix.Sub (by_ix f a) (by_ix f b)
      row = first_of (simp ix_lemmas, grind (arith, ix_lemmas), search (rules, ix_lemmas))

  pub mul_here : (a b : Ix) → by_ix f (ix.Mul a b) ≡ f (layer_ix.Mul (by_ix f a) (by_ix f b))
  mul_here a b = by_ix_out f (ix.Mul a b) ∙ ap f row
    where
      row : map-Ix Ix A (by_ix f) (out-Ix (ix.Mul a b)) ≡ layer_ix.Mul (by_ix f a) (by_ix f b)
      row = first_of (simp ix_lemmas, grind (arith, ix_lemmas), search (rules, ix_lemmas))

  pub min_here : (a b : Ix) → by_ix f (ix.Min a b) ≡ f (layer_ix.Min (by_ix f a) (by_ix f b))
  min_here a b = by_ix_out f (ix.Min a b) ∙ ap f row
    where
      row : map-Ix Ix A (by_ix f) (out-Ix (ix.Min a b)) ≡ layer_ix.Min (by_ix f a) (by_ix f b)
      row = first_of (simp ix_lemmas, grind (arith, ix_lemmas), search (rules, ix_lemmas))

  pub max_here : (a b : Ix) → by_ix f (ix.Max a b) ≡ f (layer_ix.Max (by_ix f a) (by_ix f b))
  max_here a b = by_ix_out f (ix.Max a b) ∙ ap f row
    where
      row : map-Ix Ix A (by_ix f) (out-Ix (ix.Max a b)) ≡ layer_ix.Max (by_ix f a) (by_ix f b)
      row = first_of (simp ix_lemmas, grind (arith, ix_lemmas), search (rules, ix_lemmas))

  pub mod_here : (a b : Ix) → by_ix f (ix.Mod a b) ≡ f (layer_ix.Mod (by_ix f a) (by_ix f b))
  mod_here a b = by_ix_out f (ix.Mod a b) ∙ ap f row
    where
      row : map-Ix Ix A (by_ix f) (out-Ix (ix.Mod a b)) ≡ layer_ix.Mod (by_ix f a) (by_ix f b)
      row = first_of (simp ix_lemmas, grind (arith, ix_lemmas), search (rules, ix_lemmas))

  pub floord_here : (a : Ix) (n : ℤ) → by_ix f (ix.Floord a n) ≡ f (layer_ix.Floord (by_ix f a) n)
  floord_here a n = by_ix_out f (ix.Floord a n) ∙ ap f row
    where
      row : map-Ix Ix A (by_ix f) (out-Ix (ix.Floord a n)) ≡ layer_ix.Floord (by_ix f a) n
      row = first_of (simp ix_lemmas, grind (arith, ix_lemmas), search (rules, ix_lemmas))

  pub ceild_here : (a : Ix) (n : ℤ) → by_ix f (ix.Ceild a n) ≡ f (layer_ix.Ceild (by_ix f a) n)
  ceild_here a n = by_ix_out f (ix.Ceild a n) ∙ ap f row
    where
      row : map-Ix Ix A (by_ix f) (out-Ix (ix.Ceild a n)) ≡ layer_ix.Ceild (by_ix f a) n
      row = first_of (simp ix_lemmas, grind (arith, ix_lemmas), search (rules, ix_lemmas))

module _ {A : Type 0} (f : Val-F A → A) where
  pub not_here : (v : Val) → by_val f (val.Not v) ≡ f (layer_v.Not (by_val f v))
  not_here v = by_val_out f (val.Not v) ∙ ap f row
    where
      row : map-Val Val A (by_val f) (out-Val (val.Not v)) ≡ layer_v.Not (by_val f v)
      row = first_of (simp val_lemmas, grind (arith, val_lemmas), search (rules, val_lemmas))

  pub bin_here : (op : Op) (v w : Val) → by_val f (val.Bin op v w) ≡ f (layer_v.Bin op (by_val f v) (by_val f w))
  bin_here op v w = by_val_out f (val.Bin op v w) ∙ ap f row
    where
      row : map-Val Val A (by_val f) (out-Val (val.Bin op v w)) ≡ layer_v.Bin op (by_val f v) (by_val f w)
      row = first_of (simp val_lemmas, grind (arith, val_lemmas), search (rules, val_lemmas))

  pub shift_here : (left : Bool) (v : Val) (by : ℕ) → by_val f (val.Shift left v by) ≡ f (layer_v.Shift left (by_val f v) by)
  shift_here left v by = by_val_out f (val.Shift left v by) ∙ ap f row
    where
      row : map-Val Val A (by_val f) (out-Val (val.Shift left v by)) ≡ layer_v.Shift left (by_val f v) by
      row = first_of (simp val_lemmas, grind (arith, val_lemmas), search (rules, val_lemmas))

module _ {A : Type 0} (f : Stmt-F A → A) where
  pub for_here : (iter : List ℕ) (low : Ix) (rel : Rel) (high : Ix) (body : List Stmt) → by_stmt f (stmt.For iter low rel high body) ≡ f (layer.For iter low rel high (map (by_stmt f) body))
  for_here iter low rel high body = by_stmt_out f (stmt.For iter low rel high body) ∙ ap f row
    where
      row : map-Stmt Stmt A (by_stmt f) (out-Stmt (stmt.For iter low rel high body)) ≡ layer.For iter low rel high (map (by_stmt f) body)
      row = first_of (simp stmt_lemmas, grind (arith, stmt_lemmas), search (rules, stmt_lemmas))

  pub if_here : (cond : Cond) (body other : List Stmt) → by_stmt f (stmt.If cond body other) ≡ f (layer.If cond (map (by_stmt f) body) (map (by_stmt f) other))
  if_here cond body other = by_stmt_out f (stmt.If cond body other) ∙ ap f row
    where
      row : map-Stmt Stmt A (by_stmt f) (out-Stmt (stmt.If cond body other)) ≡ layer.If cond (map (by_stmt f) body) (map (by_stmt f) other)
      row = first_of (simp stmt_lemmas, grind (arith, stmt_lemmas), search (rules, stmt_lemmas))

  pub block_here : (locals : List Local) (body : List Stmt) → by_stmt f (stmt.Block locals body) ≡ f (layer.Block locals (map (by_stmt f) body))
  block_here locals body = by_stmt_out f (stmt.Block locals body) ∙ ap f row
    where
      row : map-Stmt Stmt A (by_stmt f) (out-Stmt (stmt.Block locals body)) ≡ layer.Block locals (map (by_stmt f) body)
      row = first_of (simp stmt_lemmas, grind (arith, stmt_lemmas), search (rules, stmt_lemmas))

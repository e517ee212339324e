-- Functions on trees by one step.
--
-- A step says what a node gives, once each node of its own kind in it has given its own: `Ix-F A` is a node of
-- an index expression with an `A` in the place of each expression in it. So a definition by a step is read
-- as a definition by cases on the node, in which `a` and `b` are what its parts have given.
use Rattle.std.specs.Prelude.{List, [], ◌∷◌}
use Rattle.affc_ast.specs.declared.tree.Ix.{Ix}
use Rattle.affc_ast.specs.declared.tree.Ix.TheVariants as c
use Rattle.affc_ast.specs.declared.tree.Ix.TheBlock.{more_of-Ix, end_of-Ix}
use Rattle.affc_ast.specs.declared.tree.Ix.TheOpen as layer
use Rattle.affc_ast.specs.declared.tree.Ix.TheOpen.{Ix-F}
use Rattle.affc_ast.specs.declared.tree.Val.{Val}
use Rattle.affc_ast.specs.declared.tree.Val.TheVariants as v
use Rattle.affc_ast.specs.declared.tree.Val.TheBlock.{more_of-Val, end_of-Val}
use Rattle.affc_ast.specs.declared.tree.Val.TheOpen as layer_v
use Rattle.affc_ast.specs.declared.tree.Val.TheOpen.{Val-F}
use Rattle.affc_ast.specs.declared.tree.Cond.{Cond}
use Rattle.affc_ast.specs.declared.tree.Cond.TheVariants as d
use Rattle.affc_ast.specs.declared.tree.Cond.TheBlock.{Row_of-Cond, more_of-Cond, end_of-Cond}
use Rattle.affc_ast.specs.declared.tree.Cond.TheOpen as layer_d
use Rattle.affc_ast.specs.declared.tree.Cond.TheOpen.{Cond-F}
use Rattle.affc_ast.specs.declared.tree.Stmt.{Stmt}
use Rattle.affc_ast.specs.declared.tree.Stmt.TheVariants as s
use Rattle.affc_ast.specs.declared.tree.Stmt.TheBlock.{Row_of-Stmt, more_of-Stmt, end_of-Stmt}
use Rattle.affc_ast.specs.declared.tree.Stmt.TheOpen as layer_s
use Rattle.affc_ast.specs.declared.tree.Stmt.TheOpen.{Stmt-F}

-- index expressions
abbrev pub by_ix : {A : Type 0} → (Ix-F A → A) → Ix → A
by_ix f (c.Lit n) = f (layer.Lit n)
by_ix f (c.Name x) = f (layer.Name x)
by_ix f (c.Neg' s (more_of-Ix a end_of-Ix)) = f (layer.Neg (by_ix f a))
by_ix f (c.Floord' s (more_of-Ix a end_of-Ix) n) = f (layer.Floord (by_ix f a) n)
by_ix f (c.Ceild' s (more_of-Ix a end_of-Ix) n) = f (layer.Ceild (by_ix f a) n)
by_ix f (c.Add' s (more_of-Ix a end_of-Ix) t (more_of-Ix b end_of-Ix)) = f (layer.Add (by_ix f a) (by_ix f b))
by_ix f (c.Sub' s (more_of-Ix a end_of-Ix) t (more_of-Ix b end_of-Ix)) = f (layer.Sub (by_ix f a) (by_ix f b))
by_ix f (c.Mul' s (more_of-Ix a end_of-Ix) t (more_of-Ix b end_of-Ix)) = f (layer.Mul (by_ix f a) (by_ix f b))
by_ix f (c.Min' s (more_of-Ix a end_of-Ix) t (more_of-Ix b end_of-Ix)) = f (layer.Min (by_ix f a) (by_ix f b))
by_ix f (c.Max' s (more_of-Ix a end_of-Ix) t (more_of-Ix b end_of-Ix)) = f (layer.Max (by_ix f a) (by_ix f b))
by_ix f (c.Mod' s (more_of-Ix a end_of-Ix) t (more_of-Ix b end_of-Ix)) = f (layer.Mod (by_ix f a) (by_ix f b))

-- values
abbrev pub by_val : {A : Type 0} → (Val-F A → A) → Val → A
by_val f (v.Load array subs) = f (layer_v.Load array subs)
by_val f (v.Const n) = f (layer_v.Const n)
by_val f (v.Cast e) = f (layer_v.Cast e)
by_val f (v.Not' s (more_of-Val a end_of-Val)) = f (layer_v.Not (by_val f a))
by_val f (v.Bin' op s (more_of-Val a end_of-Val) t (more_of-Val b end_of-Val)) = f (layer_v.Bin op (by_val f a) (by_val f b))
by_val f (v.Shift' left s (more_of-Val a end_of-Val) by) = f (layer_v.Shift left (by_val f a) by)

-- conditions; a step is given the list of what the entries have given
abbrev mutual
  pub by_cond : {A : Type 0} → (Cond-F A → A) → Cond → A
  by_cond f (d.Compare rel left right) = f (layer_d.Compare rel left right)
  by_cond f (d.All' shape entries) = f (layer_d.All (by_entries f entries))
  by_cond f (d.Any' shape entries) = f (layer_d.Any (by_entries f entries))
  by_cond f (d.Divides value by so) = f (layer_d.Divides value by so)

  pub by_entries : {A : Type 0} {n : _} → (Cond-F A → A) → Row_of-Cond n → List A
  by_entries f end_of-Cond = []
  by_entries f (more_of-Cond x rest) = by_cond f x ∷ by_entries f rest

-- statements; a step is given the lists of what the statements of each body have given
abbrev mutual
  pub by_stmt : {A : Type 0} → (Stmt-F A → A) → Stmt → A
  by_stmt f (s.For' iter low rel high shape body) = f (layer_s.For iter low rel high (by_each f body))
  by_stmt f (s.If' cond shape body shape' other) = f (layer_s.If cond (by_each f body) (by_each f other))
  by_stmt f (s.Assign op array subs value) = f (layer_s.Assign op array subs value)
  by_stmt f (s.Block' locals shape body) = f (layer_s.Block locals (by_each f body))

  pub by_each : {A : Type 0} {n : _} → (Stmt-F A → A) → Row_of-Stmt n → List A
  by_each f end_of-Stmt = []
  by_each f (more_of-Stmt x rest) = by_stmt f x ∷ by_each f rest

-- What holds of each node whose parts it holds of holds of every tree.
use Rattle.std.proofs.Common.{ℕ, ℤ, Bool, List, [], ◌∷◌, map, Option, sym, subst}
use denote.Hole.Carrier.{hidden}
use denote.Hole.Holds.{Such}
use Rattle.affc_ast.specs.declared.tree.NameId.{NameId}
use Rattle.affc_ast.specs.declared.tree.ArrayId.{ArrayId}
use Rattle.affc_ast.specs.declared.tree.Op.{Op}
use Rattle.affc_ast.specs.declared.tree.Rel.{Rel}
use Rattle.affc_ast.specs.declared.tree.Local.{Local}
use Rattle.affc_ast.specs.declared.tree.Ix.{Ix}
use Rattle.affc_ast.specs.declared.tree.Ix.TheVariants as ix
use Rattle.affc_ast.specs.declared.tree.Ix.TheBlock.{more_of-Ix, end_of-Ix, shape-the_row-Ix-0, hidden-the_row-Ix-0}
use Rattle.affc_ast.specs.declared.tree.Val.{Val}
use Rattle.affc_ast.specs.declared.tree.Val.TheVariants as val
use Rattle.affc_ast.specs.declared.tree.Val.TheBlock.{more_of-Val, end_of-Val, shape-the_row-Val-0, hidden-the_row-Val-0}
use Rattle.affc_ast.specs.declared.tree.Cond.{Cond, Cond-F, ind-Cond, map-Cond, roll-Cond}
use Rattle.affc_ast.specs.declared.tree.Cond.TheVariants as cond
use Rattle.affc_ast.specs.declared.tree.Cond.TheVariants.{rolls-Compare, rolls-All, rolls-Any, rolls-Divides}
use Rattle.affc_ast.specs.declared.tree.Cond.TheBlock.{the_family as cond_family, member-Cond}
use Rattle.affc_ast.specs.declared.tree.Cond.TheFolds.{claims as cond_claims}
use Rattle.affc_ast.specs.declared.tree.Cond.TheOpen as cond_layer
use Rattle.affc_ast.specs.declared.tree.Stmt.{Stmt, Stmt-F, ind-Stmt, map-Stmt, roll-Stmt}
use Rattle.affc_ast.specs.declared.tree.Stmt.TheVariants as stmt
use Rattle.affc_ast.specs.declared.tree.Stmt.TheVariants.{rolls-For, rolls-If, rolls-Assign, rolls-Block}
use Rattle.affc_ast.specs.declared.tree.Stmt.TheBlock.{the_family, member-Stmt}
use Rattle.affc_ast.specs.declared.tree.Stmt.TheFolds.{claims}
use Rattle.affc_ast.specs.declared.tree.Stmt.TheOpen as layer
use Rattle.affc_cprint.proofs.ReadBackValues.{Each}

pub record IxCases (P : Ix → Type 0) : Type 0 where
  pub lit : (n : ℤ) → P (ix.Lit n)
  pub name : (id : NameId) → P (ix.Name id)
  pub neg : (a : Ix) → P a → P (ix.Neg a)
  pub add : (a b : Ix) → P a → P b → P (ix.Add a b)
  pub sub : (a b : Ix) → P a → P b → P (ix.Sub a b)
  pub mul : (a b : Ix) → P a → P b → P (ix.Mul a b)
  pub min : (a b : Ix) → P a → P b → P (ix.Min a b)
  pub max : (a b : Ix) → P a → P b → P (ix.Max a b)
  pub remainder : (a b : Ix) → P a → P b → P (ix.Mod a b)
  pub floord : (a : Ix) (by : ℤ) → P a → P (ix.Floord a by)
  pub ceild : (a : Ix) (by : ℤ) → P a → P (ix.Ceild a by)

pub every_ix : (P : Ix → Type 0) → IxCases P → (e : Ix) → P e
unfolding shape-the_row-Ix-0 hidden-the_row-Ix-0 hidden
every_ix P c (ix.Lit n) = c.lit n
every_ix P c (ix.Name id) = c.name id
every_ix P c (ix.Neg' s (more_of-Ix a end_of-Ix)) = c.neg a (every_ix P c a)
every_ix P c (ix.Floord' s (more_of-Ix a end_of-Ix) by) = c.floord a by (every_ix P c a)
every_ix P c (ix.Ceild' s (more_of-Ix a end_of-Ix) by) = c.ceild a by (every_ix P c a)
every_ix P c (ix.Add' s (more_of-Ix a end_of-Ix) t (more_of-Ix b end_of-Ix)) = c.add a b (every_ix P c a) (every_ix P c b)
every_ix P c (ix.Sub' s (more_of-Ix a end_of-Ix) t (more_of-Ix b end_of-Ix)) = c.sub a b (every_ix P c a) (every_ix P c b)
every_ix P c (ix.Mul' s (more_of-Ix a end_of-Ix) t (more_of-Ix b end_of-Ix)) = c.mul a b (every_ix P c a) (every_ix P c b)
every_ix P c (ix.Min' s (more_of-Ix a end_of-Ix) t (more_of-Ix b end_of-Ix)) = c.min a b (every_ix P c a) (every_ix P c b)
every_ix P c (ix.Max' s (more_of-Ix a end_of-Ix) t (more_of-Ix b end_of-Ix)) = c.max a b (every_ix P c a) (every_ix P c b)
every_ix P c (ix.Mod' s (more_of-Ix a end_of-Ix) t (more_of-Ix b end_of-Ix)) = c.remainder a b (every_ix P c a) (every_ix P c b)

pub record ValCases (P : Val → Type 0) : Type 0 where
  pub load : (id : ArrayId) (subs : List Ix) → P (val.Load id subs)
  pub const : (n : ℕ) → P (val.Const n)
  pub cast : (e : Ix) → P (val.Cast e)
  pub not : (a : Val) → P a → P (val.Not a)
  pub bin : (op : Op) (a b : Val) → P a → P b → P (val.Bin op a b)
  pub shift : (left : Bool) (a : Val) (by : ℕ) → P a → P (val.Shift left a by)

pub every_val : (P : Val → Type 0) → ValCases P → (v : Val) → P v
unfolding shape-the_row-Val-0 hidden-the_row-Val-0 hidden
every_val P c (val.Load id subs) = c.load id subs
every_val P c (val.Const n) = c.const n
every_val P c (val.Cast e) = c.cast e
every_val P c (val.Not' s (more_of-Val a end_of-Val)) = c.not a (every_val P c a)
every_val P c (val.Bin' op s (more_of-Val a end_of-Val) t (more_of-Val b end_of-Val)) = c.bin op a b (every_val P c a) (every_val P c b)
every_val P c (val.Shift' left s (more_of-Val a end_of-Val) by) = c.shift left a by (every_val P c a)

pub record CondCases (P : Cond → Type 0) : Type 0 where
  pub compare : (rel : Rel) (left right : Ix) → P (cond.Compare rel left right)
  pub all : (cs : List Cond) → Each P cs → P (cond.All cs)
  pub any : (cs : List Cond) → Each P cs → P (cond.Any cs)
  pub divides : (value : Ix) (by : ℤ) (so : Bool) → P (cond.Divides value by so)

-- a condition of which it holds
abbrev HeldCond : (Cond → Type 0) → Type 0
HeldCond P = Such cond_family (cond_claims P) member-Cond

each_cond : (P : Cond → Type 0) (ys : List (HeldCond P)) → Each P (map (λ y. y.0) ys)
each_cond P [] = tt
each_cond P (y ∷ ys) = (y.1, each_cond P ys)

of_cond_layer : (P : Cond → Type 0) → CondCases P → (y : Cond-F (HeldCond P)) → P (roll-Cond (map-Cond (HeldCond P) Cond (λ z. z.0) y))
of_cond_layer P c (cond_layer.Compare rel left right) = subst P (sym (rolls-Compare rel left right)) (c.compare rel left right)
of_cond_layer P c (cond_layer.All cs) = subst P (sym (rolls-All (map (λ y. y.0) cs))) (c.all (map (λ y. y.0) cs) (each_cond P cs))
of_cond_layer P c (cond_layer.Any cs) = subst P (sym (rolls-Any (map (λ y. y.0) cs))) (c.any (map (λ y. y.0) cs) (each_cond P cs))
of_cond_layer P c (cond_layer.Divides value by so) = subst P (sym (rolls-Divides value by so)) (c.divides value by so)

pub every_cond : (P : Cond → Type 0) → CondCases P → (x : Cond) → P x
every_cond P c x = ind-Cond P (λ z y e. subst (λ w. P (roll-Cond w)) e (of_cond_layer P c y)) x

pub record StmtCases (P : Stmt → Type 0) : Type 0 where
  pub loop : (iter : List ℕ) (low : Ix) (rel : Rel) (high : Ix) (body : List Stmt) → Each P body → P (stmt.For iter low rel high body)
  pub test : (x : Cond) (body other : List Stmt) → Each P body → Each P other → P (stmt.If x body other)
  pub assign : (op : Option Op) (id : ArrayId) (subs : List Ix) (v : Val) → P (stmt.Assign op id subs v)
  pub block : (ls : List Local) (body : List Stmt) → Each P body → P (stmt.Block ls body)

-- a statement of which it holds
abbrev Held : (Stmt → Type 0) → Type 0
Held P = Such the_family (claims P) member-Stmt

each_held : (P : Stmt → Type 0) (ys : List (Held P)) → Each P (map (λ y. y.0) ys)
each_held P [] = tt
each_held P (y ∷ ys) = (y.1, each_held P ys)

of_layer : (P : Stmt → Type 0) → StmtCases P → (y : Stmt-F (Held P)) → P (roll-Stmt (map-Stmt (Held P) Stmt (λ z. z.0) y))
of_layer P c (layer.For iter low rel high body) = subst P (sym (rolls-For iter low rel high (map (λ y. y.0) body))) (c.loop iter low rel high (map (λ y. y.0) body) (each_held P body))
of_layer P c (layer.If x body other) = subst P (sym (rolls-If x (map (λ y. y.0) body) (map (λ y. y.0) other))) (c.test x (map (λ y. y.0) body) (map (λ y. y.0) other) (each_held P body) (each_held P other))
of_layer P c (layer.Assign op id subs v) = subst P (sym (rolls-Assign op id subs v)) (c.assign op id subs v)
of_layer P c (layer.Block ls body) = subst P (sym (rolls-Block ls (map (λ y. y.0) body))) (c.block ls (map (λ y. y.0) body) (each_held P body))

pub every_stmt : (P : Stmt → Type 0) → StmtCases P → (s : Stmt) → P s
every_stmt P c s = ind-Stmt P (λ x y e. subst (λ z. P (roll-Stmt z)) e (of_layer P c y)) s

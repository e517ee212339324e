-- The form of each expression of a tree: whether it holds names, one side of each product in it holds none, and no number in it passes the limit.
use Rattle.std.specs.Prelude.{Bool, true, false, not, ◌&&◌, ◌||◌, nat_lt, List, [], ◌∷◌, ℤ, nat_abs}
use Rattle.std.specs.List.{list_all}
use Rattle.affc_ast.specs.declared.tree.Ix.{Ix}
use Rattle.affc_ast.specs.declared.tree.Ix.TheOpen as ix
use Rattle.affc_ast.specs.declared.tree.Ix.TheOpen.{Ix-F}
use Rattle.affc_ast.specs.declared.tree.Compare.{Compare}
use Rattle.affc_ast.specs.declared.tree.Cond.{Cond}
use Rattle.affc_ast.specs.declared.tree.Cond.TheOpen as cond
use Rattle.affc_ast.specs.declared.tree.Cond.TheOpen.{Cond-F}
use Rattle.affc_ast.specs.declared.tree.Local.{Local}
use Rattle.affc_ast.specs.declared.tree.Val.{Val}
use Rattle.affc_ast.specs.declared.tree.Val.TheOpen as val
use Rattle.affc_ast.specs.declared.tree.Val.TheOpen.{Val-F}
use Rattle.affc_ast.specs.declared.tree.Stmt.{Stmt}
use Rattle.affc_ast.specs.declared.tree.Stmt.TheOpen as stmt
use Rattle.affc_ast.specs.declared.tree.Stmt.TheOpen.{Stmt-F}
use Rattle.affc_ast.specs.declared.tree.Decl.{Decl}
use Rattle.affc_ast.specs.declared.tree.Param.{Param}
use Rattle.affc_ast.specs.declared.tree.Param.TheVariants.{Number, Array}
use Rattle.affc_ast.specs.declared.tree.Program.{Program}
use Rattle.affc_ast.specs.Recursion.{by_ix, by_val, by_cond, by_stmt}
use Rattle.affc_grammar.specs.Limits.{wide_limits}

abbrev pub is_none : {A : Type 0} → List A → Bool
is_none [] = true
is_none (x ∷ xs) = false

-- ---- One expression

pub record Form : Type 0 where
  pub named : Bool
  pub affine : Bool
  pub small : Bool

-- a number within the limit
abbrev pub is_within : ℤ → Bool
is_within n = not (nat_lt wide_limits.literal (nat_abs n))

abbrev pub literal : Bool → Form
literal small = record { named = false; affine = true; small = small }

abbrev pub name : Form
name = record { named = true; affine = true; small = true }

abbrev pub both : Form → Form → Form
both a b = record { named = a.named || b.named; affine = a.affine && b.affine; small = a.small && b.small }

-- a product of two names isn't affine
abbrev pub product : Form → Form → Form
product a b = record { named = a.named || b.named; affine = (a.affine && not (a.named && b.named)) && b.affine; small = a.small && b.small }

abbrev pub quotient : Form → Bool → Form
quotient a small = record { named = a.named; affine = a.affine; small = a.small && small }

abbrev pub form_step : Ix-F Form → Form
form_step (ix.Lit n) = literal (is_within n)
form_step (ix.Name id) = name
form_step (ix.Neg a) = a
form_step (ix.Add a b) = both a b
form_step (ix.Sub a b) = both a b
form_step (ix.Mul a b) = product a b
form_step (ix.Min a b) = both a b
form_step (ix.Max a b) = both a b
form_step (ix.Mod a b) = both a b
form_step (ix.Floord a by) = quotient a (is_within by)
form_step (ix.Ceild a by) = quotient a (is_within by)

abbrev pub form : Ix → Form
form e = by_ix form_step e

-- ---- Every expression

module _ (test : Ix → Bool) where
  abbrev pub compare_passes : Compare → Bool
  compare_passes c = test c.left && test c.right

  abbrev pub cond_step : Cond-F Bool → Bool
  cond_step (cond.Compare rel left right) = test left && test right
  cond_step (cond.All bs) = list_all (λ b. b) bs
  cond_step (cond.Any bs) = list_all (λ b. b) bs
  cond_step (cond.Divides value by so) = test value

  abbrev pub cond_passes : Cond → Bool
  cond_passes c = by_cond cond_step c

  abbrev pub value_step : Val-F Bool → Bool
  value_step (val.Load id subs) = list_all test subs
  value_step (val.Const n) = true
  value_step (val.Cast e) = test e
  value_step (val.Not a) = a
  value_step (val.Bin op a b) = a && b
  value_step (val.Shift left a by) = a

  abbrev pub value_passes : Val → Bool
  value_passes v = by_val value_step v

  abbrev pub local_passes : Local → Bool
  local_passes l = test l.value

  abbrev pub stmt_step : Stmt-F Bool → Bool
  stmt_step (stmt.For iter low rel high body) = test low && (test high && list_all (λ b. b) body)
  stmt_step (stmt.If c body other) = cond_passes c && (list_all (λ b. b) body && list_all (λ b. b) other)
  stmt_step (stmt.Assign op id subs v) = list_all test subs && value_passes v
  stmt_step (stmt.Block ls body) = list_all local_passes ls && list_all (λ b. b) body

  abbrev pub stmt_passes : Stmt → Bool
  stmt_passes s = by_stmt stmt_step s

  abbrev pub decl_passes : Decl → Bool
  decl_passes d = list_all test d.extents

  abbrev pub param_passes : Param → Bool
  param_passes (Number w low high) = true
  param_passes (Array d) = decl_passes d

  abbrev pub program_passes : Program → Bool
  program_passes p = ((list_all compare_passes p.context && list_all param_passes p.params) && list_all decl_passes p.temps) && list_all stmt_passes p.body

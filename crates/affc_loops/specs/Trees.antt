-- Affine forms as expressions, and expressions of a source where more names stand in sight.
use Rattle.std.specs.Prelude.{ℕ, zero, suc, ◌+◌, ℤ, pos, negsuc, nat_lt, if◌then◌else◌, List, [], ◌∷◌, ◌++◌, map, take, drop}
use Rattle.affc_ast.specs.declared.tree.Cond.{Cond}
use Rattle.affc_ast.specs.declared.tree.Cond.TheVariants.{Compare, All, Any, Divides}
use Rattle.affc_ast.specs.declared.tree.Cond.TheOpen as cond
use Rattle.affc_ast.specs.declared.tree.Cond.TheOpen.{Cond-F}
use Rattle.affc_ast.specs.declared.tree.Ix.{Ix}
use Rattle.affc_ast.specs.declared.tree.Ix.TheVariants.{Lit, Name, Neg, Add, Sub, Mul, Min, Max, Floord, Ceild, Mod}
use Rattle.affc_ast.specs.declared.tree.Ix.TheOpen as ix
use Rattle.affc_ast.specs.declared.tree.Ix.TheOpen.{Ix-F}
use Rattle.affc_ast.specs.declared.tree.Val.{Val}
use Rattle.affc_ast.specs.declared.tree.Val.TheVariants.{Load, Const, Cast, Not, Bin, Shift}
use Rattle.affc_ast.specs.declared.tree.Val.TheOpen as val
use Rattle.affc_ast.specs.declared.tree.Val.TheOpen.{Val-F}
use Rattle.affc_ast.specs.Recursion.{by_ix, by_val, by_cond}
use Rattle.affc_rows.specs.Forms.{Affine}

abbrev pub name_at : ℕ → Ix
name_at n = Name (record { 0 = n })

-- ---- Forms

-- a number; a negative one has its minus before it
abbrev pub number : ℤ → Ix
number (pos n) = Lit (pos n)
number (negsuc n) = Neg (Lit (pos (suc n)))

-- so many times the value of a name, at least once
abbrev pub times : (less_one : ℕ) → (name : ℕ) → Ix
times zero name = name_at name
times (suc m) name = Mul (Lit (pos (suc (suc m)))) (name_at name)

-- a coefficient of the name with this number
abbrev pub Term : Type 0
Term = ℤ × ℕ

-- more terms behind a sum; those with the coefficient 0 are left out, and so is the constant 0
abbrev pub and_more : Ix → List Term → (constant : ℤ) → Ix
and_more e [] (pos zero) = e
and_more e [] (pos (suc n)) = Add e (Lit (pos (suc n)))
and_more e [] (negsuc n) = Sub e (Lit (pos (suc n)))
and_more e ((pos zero, x) ∷ ts) constant = and_more e ts constant
and_more e ((pos (suc m), x) ∷ ts) constant = and_more (Add e (times m x)) ts constant
and_more e ((negsuc m, x) ∷ ts) constant = and_more (Sub e (times m x)) ts constant

abbrev pub sum_of : List Term → (constant : ℤ) → Ix
sum_of [] constant = number constant
sum_of ((pos zero, x) ∷ ts) constant = sum_of ts constant
sum_of ((pos (suc m), x) ∷ ts) constant = and_more (times m x) ts constant
sum_of ((negsuc m, x) ∷ ts) constant = and_more (Neg (times m x)) ts constant

-- these coefficients at the names from this number on
abbrev pub terms_from : ℕ → List ℤ → List Term
terms_from from [] = []
terms_from from (c ∷ cs) = (c, from) ∷ terms_from (suc from) cs

-- The form as an expression: its first columns are the names from the first on, and its others those from `from` on; these lead.
abbrev pub form_tree : (first from : ℕ) → Affine → Ix
form_tree first from f = sum_of (terms_from from (drop first f.coefs) ++ terms_from 0 (take first f.coefs)) f.constant

-- ---- Expressions where so many more names stand in sight behind the first ones

abbrev pub moved_name : (first more : ℕ) → ℕ → ℕ
moved_name first more x = if nat_lt x first then x else x + more

abbrev pub moved_step : (first more : ℕ) → Ix-F Ix → Ix
moved_step first more (ix.Lit n) = Lit n
moved_step first more (ix.Name x) = name_at (moved_name first more x.0)
moved_step first more (ix.Neg a) = Neg a
moved_step first more (ix.Add a b) = Add a b
moved_step first more (ix.Sub a b) = Sub a b
moved_step first more (ix.Mul a b) = Mul a b
moved_step first more (ix.Min a b) = Min a b
moved_step first more (ix.Max a b) = Max a b
moved_step first more (ix.Floord a n) = Floord a n
moved_step first more (ix.Ceild a n) = Ceild a n
moved_step first more (ix.Mod a b) = Mod a b

abbrev pub moved : (first more : ℕ) → Ix → Ix
moved first more = by_ix (moved_step first more)

abbrev pub moved_cond_step : (first more : ℕ) → Cond-F Cond → Cond
moved_cond_step first more (cond.Compare rel left right) = Compare rel (moved first more left) (moved first more right)
moved_cond_step first more (cond.All cs) = All cs
moved_cond_step first more (cond.Any cs) = Any cs
moved_cond_step first more (cond.Divides value by so) = Divides (moved first more value) by so

-- a condition of such expressions, with the same relations and divisors
abbrev pub moved_cond : (first more : ℕ) → Cond → Cond
moved_cond first more = by_cond (moved_cond_step first more)

abbrev pub moved_value_step : (first more : ℕ) → Val-F Val → Val
moved_value_step first more (val.Load array subs) = Load array (map (moved first more) subs)
moved_value_step first more (val.Const n) = Const n
moved_value_step first more (val.Cast e) = Cast (moved first more e)
moved_value_step first more (val.Not a) = Not a
moved_value_step first more (val.Bin op a b) = Bin op a b
moved_value_step first more (val.Shift left a by) = Shift left a by

abbrev pub moved_value : (first more : ℕ) → Val → Val
moved_value first more = by_val (moved_value_step first more)

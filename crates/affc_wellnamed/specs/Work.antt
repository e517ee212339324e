-- What the limits on statements, arrays and lines ask of a tree. Numbers past those of 64 bits count as the greatest of them.
use Rattle.std.specs.Prelude.{ℕ, Bool, true, false, not, ◌&&◌, ◌||◌, nat_le, nat_lt, List, [], ◌∷◌, length, map, Option, Some, None, ℤ, nat_abs, if◌then◌else◌}
use Rattle.std.specs.List.{list_all}
use Rattle.affc_ast.specs.declared.tree.Op.{Op}
use Rattle.affc_ast.specs.declared.tree.Val.{Val}
use Rattle.affc_ast.specs.declared.tree.Val.TheOpen as val
use Rattle.affc_ast.specs.declared.tree.Val.TheOpen.{Val-F}
use Rattle.affc_ast.specs.declared.tree.Cond.{Cond}
use Rattle.affc_ast.specs.declared.tree.Cond.TheOpen as cond
use Rattle.affc_ast.specs.declared.tree.Cond.TheOpen.{Cond-F}
use Rattle.affc_ast.specs.declared.tree.Stmt.{Stmt}
use Rattle.affc_ast.specs.declared.tree.Stmt.TheOpen as stmt
use Rattle.affc_ast.specs.declared.tree.Stmt.TheOpen.{Stmt-F}
use Rattle.affc_ast.specs.declared.tree.Decl.{Decl}
use Rattle.affc_ast.specs.declared.tree.Param.{Param}
use Rattle.affc_ast.specs.declared.tree.Param.TheVariants.{Number, Array}
use Rattle.affc_ast.specs.declared.tree.Program.{Program}
use Rattle.affc_ast.specs.Recursion.{by_val, by_cond, by_stmt}
use Rattle.affc_ast.specs.Fits.{all_true}
use Rattle.affc_grammar.specs.Limits.{is_range, wide_limits}
use Rattle.affc_wellnamed.specs.Known.{number_count}
use Rattle.affc_wellnamed.specs.Shape.{plus, larger}
use Rattle.affc_wellnamed.specs.declared.work.Work.{Work}

-- ---- Statements

abbrev pub load_step : Val-F ℕ → ℕ
load_step (val.Load id subs) = 1
load_step (val.Const n) = 0
load_step (val.Cast e) = 0
load_step (val.Not a) = a
load_step (val.Bin op a b) = plus a b
load_step (val.Shift left a by) = a

abbrev pub loads : Val → ℕ
loads v = by_val load_step v

-- an assignment with an operator loads its own element, and each stores
abbrev pub own_accesses : Option Op → ℕ
own_accesses None = 1
own_accesses (Some o) = 2

abbrev pub no_work : Work
no_work = record { statements = 0; loops = 0; crowded = false }

abbrev pub one_work : Option Op → (loaded : ℕ) → Work
one_work o loaded = record { statements = 1; loops = 0; crowded = nat_lt 16 (plus loaded (own_accesses o)) }

abbrev pub both : Work → Work → Work
both a b = record { statements = plus a.statements b.statements; loops = larger a.loops b.loops; crowded = a.crowded || b.crowded }

-- in one loop more
abbrev pub looped : Work → Work
looped a = record { statements = a.statements; loops = (if nat_lt 0 a.statements then plus a.loops 1 else 0); crowded = a.crowded }

abbrev pub all_behind : Work → List Work → Work
all_behind a [] = a
all_behind a (w ∷ ws) = all_behind (both a w) ws

abbrev pub stmt_step : Stmt-F Work → Work
stmt_step (stmt.For iter low rel high body) = looped (all_behind no_work body)
stmt_step (stmt.If c body other) = both (all_behind no_work body) (all_behind no_work other)
stmt_step (stmt.Assign o id subs v) = one_work o (loads v)
stmt_step (stmt.Block ls body) = all_behind no_work body

abbrev pub work : Stmt → Work
work s = by_stmt stmt_step s

abbrev pub stmts_behind : Work → List Stmt → Work
stmts_behind a body = all_behind a (map work body)

abbrev pub is_bounded : Work → Bool
is_bounded a = (nat_le a.statements 64 && nat_le a.loops wide_limits.loops) && (if a.crowded then false else true)

-- ---- Remainders

-- a number within the limit
abbrev pub is_small : ℤ → Bool
is_small by = not (nat_lt wide_limits.divisor (nat_abs by))

abbrev pub small_step : Cond-F Bool → Bool
small_step (cond.Compare rel left right) = true
small_step (cond.All bs) = all_true bs
small_step (cond.Any bs) = all_true bs
small_step (cond.Divides value by so) = is_small by

-- whether the number of each remainder is within the limit
abbrev pub cond_fits : Cond → Bool
cond_fits c = by_cond small_step c

abbrev pub fits_step : Stmt-F Bool → Bool
fits_step (stmt.For iter low rel high body) = all_true body
fits_step (stmt.If c body other) = cond_fits c && (all_true body && all_true other)
fits_step (stmt.Assign o id subs v) = true
fits_step (stmt.Block ls body) = all_true body

abbrev pub stmt_fits : Stmt → Bool
stmt_fits s = by_stmt fits_step s

-- ---- Declarations and lines

abbrev pub has_few : Decl → Bool
has_few d = nat_le (length d.extents) 4

abbrev pub param_fits : Param → Bool
param_fits (Number w low high) = is_range low high
param_fits (Array d) = has_few d

abbrev pub program_fits : Program → Bool
program_fits p =
    (nat_le (number_count p.params) 4 && nat_le (length p.context) 16)
    && ((list_all param_fits p.params && list_all has_few p.temps) && (is_bounded (stmts_behind no_work p.body) && all_true (map stmt_fits p.body)))

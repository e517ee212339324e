-- What of a tree a text can say where it stands: names that are in sight, numbers that are written, and calls where they may be made.
use Rattle.std.specs.Prelude.{ℕ, ◌+◌, ◌^◌, ◌==◌, Bool, true, false, not, ◌&&◌, ◌||◌, nat_le, nat_lt, List, [], ◌∷◌, ◌++◌, length, map, Option, Some, None, ℤ, pos, nat_abs, int_le, slice_get, count_by}
use Rattle.std.specs.List.{list_any}
use Rattle.affc_lex.specs.Bytes.{same}
use Rattle.affc_lex.specs.Pieces.{is_word}
use Rattle.affc_ast.specs.Names.{is_reserved}
use Rattle.affc_ast.specs.declared.tree.Ix.{Ix}
use Rattle.affc_ast.specs.declared.tree.Ix.TheOpen as ix
use Rattle.affc_ast.specs.declared.tree.Ix.TheOpen.{Ix-F}
use Rattle.affc_ast.specs.declared.tree.Val.{Val}
use Rattle.affc_ast.specs.declared.tree.Val.TheOpen as val
use Rattle.affc_ast.specs.declared.tree.Val.TheOpen.{Val-F}
use Rattle.affc_ast.specs.declared.tree.Rel.{Rel}
use Rattle.affc_ast.specs.declared.tree.Rel.TheVariants.{Less, LessEqual}
use Rattle.affc_ast.specs.declared.tree.Compare.{Compare}
use Rattle.affc_ast.specs.declared.tree.Cond.{Cond}
use Rattle.affc_ast.specs.declared.tree.Cond.TheOpen as cond
use Rattle.affc_ast.specs.declared.tree.Cond.TheOpen.{Cond-F}
use Rattle.affc_ast.specs.declared.tree.Local.{Local}
use Rattle.affc_ast.specs.declared.tree.Stmt.{Stmt}
use Rattle.affc_ast.specs.declared.tree.Stmt.TheOpen as stmt
use Rattle.affc_ast.specs.declared.tree.Stmt.TheOpen.{Stmt-F}
use Rattle.affc_ast.specs.declared.tree.Role.{Role}
use Rattle.affc_ast.specs.declared.tree.Role.TheVariants.{Temp}
use Rattle.affc_ast.specs.declared.tree.Decl.{Decl}
use Rattle.affc_ast.specs.declared.tree.Param.{Param}
use Rattle.affc_ast.specs.declared.tree.Param.TheVariants.{Number, Array}
use Rattle.affc_ast.specs.declared.tree.Program.{Program}
use Rattle.affc_ast.specs.Joined.{is_ordered}
use Rattle.affc_ast.specs.Recursion.{by_ix, by_val, by_cond, by_stmt}
use Rattle.affc_grammar.specs.Grammar.{Name}
use Rattle.affc_grammar.specs.Names.{is_time_name, is_input}
use Rattle.affc_cprint.specs.Forms.{is_none}

-- what is in sight, and whether calls and locals may stand
pub record Known : Type 0 where
  pub prelude : Bool
  pub is_taken : Name → Bool
  -- how many numbers there are
  pub numbers : ℕ
  pub arrays : List Decl

-- with an iterator, and with locals
abbrev pub and_iterator : Known → Name → Known
and_iterator known w = record known { is_taken = λ v. same w v || known.is_taken v; numbers = known.numbers + 1 }

abbrev pub and_locals : Known → List Local → Known
and_locals known ls = record known { is_taken = λ v. list_any (λ l. same l.name v) ls || known.is_taken v; numbers = known.numbers + length ls }

-- a name that may be declared: a word that isn't kept for the language, and isn't taken
abbrev pub is_refused : (prelude : Bool) → (is_iterator : Bool) → Name → Bool
is_refused prelude it w = is_reserved w && not (it && prelude && is_time_name w)

abbrev pub is_new : Known → (is_iterator : Bool) → Name → Bool
is_new known it w = is_word w && not (is_refused known.prelude it w) && not (known.is_taken w)

-- ---- Expressions

-- a number that a literal can write, and one that a quotient is by
abbrev pub is_numeral : ℤ → Bool
is_numeral n = int_le (pos 0) n && nat_lt (nat_abs n) (2 ^ 64)

abbrev pub is_divisor : ℤ → Bool
is_divisor n = int_le (pos 1) n && nat_lt (nat_abs n) (2 ^ 64)

abbrev pub ix_step : Known → Ix-F Bool → Bool
ix_step known (ix.Lit n) = is_numeral n
ix_step known (ix.Name id) = nat_lt id.0 known.numbers
ix_step known (ix.Neg a) = a
ix_step known (ix.Add a b) = a && b
ix_step known (ix.Sub a b) = a && b
ix_step known (ix.Mul a b) = a && b
ix_step known (ix.Min a b) = known.prelude && (a && b)
ix_step known (ix.Max a b) = known.prelude && (a && b)
ix_step known (ix.Mod a b) = known.prelude && (a && b)
ix_step known (ix.Floord a by) = known.prelude && (is_divisor by && a)
ix_step known (ix.Ceild a by) = known.prelude && (is_divisor by && a)

abbrev pub ix_known : Known → Ix → Bool
ix_known known e = by_ix (ix_step known) e

abbrev pub ixs_known : Known → List Ix → Bool
ixs_known known [] = true
ixs_known known (e ∷ es) = ix_known known e && ixs_known known es

-- ---- Conditions

-- of a `context` line, which can't say "!="
abbrev pub compare_known : Known → Compare → Bool
compare_known known c = is_ordered c.rel && (ix_known known c.left && ix_known known c.right)

abbrev pub compares_known : Known → List Compare → Bool
compares_known known [] = true
compares_known known (c ∷ cs) = compare_known known c && compares_known known cs

-- whether conditions are joined by "&&", and whether by "||"
pub record CondKnown : Type 0 where
  pub is_all : Bool
  pub is_any : Bool
  pub is_known : Bool

abbrev pub alone : (is_known : Bool) → CondKnown
alone b = record { is_all = false; is_any = false; is_known = b }

-- by "&&", or by "||"
abbrev pub is_joined_by : (all : Bool) → CondKnown → Bool
is_joined_by true c = c.is_all
is_joined_by false c = c.is_any

-- known, and not joined by the same
abbrev pub entry_known : (all : Bool) → CondKnown → Bool
entry_known all c = not (is_joined_by all c) && c.is_known

abbrev pub each_known : (all : Bool) → List CondKnown → Bool
each_known all [] = true
each_known all (c ∷ cs) = entry_known all c && each_known all cs

abbrev pub joined_known : (all : Bool) → List CondKnown → Bool
joined_known all cs = nat_le 2 (length cs) && each_known all cs

abbrev pub cond_step : Known → Cond-F CondKnown → CondKnown
cond_step known (cond.Compare rel left right) = alone (ix_known known left && ix_known known right)
cond_step known (cond.All cs) = record { is_all = true; is_any = false; is_known = joined_known true cs }
cond_step known (cond.Any cs) = record { is_all = false; is_any = true; is_known = joined_known false cs }
cond_step known (cond.Divides value by so) = alone (is_divisor by && ix_known known value)

abbrev pub cond_seen : Known → Cond → CondKnown
cond_seen known c = by_cond (cond_step known) c

abbrev pub cond_known : Known → Cond → Bool
cond_known known c = (cond_seen known c).is_known

-- ---- Values

-- an array that is there, has so many dimensions, and isn't stored to where it is an input
abbrev pub takes : (is_store : Bool) → (subscripts : ℕ) → Option Decl → Bool
takes is_store count None = false
takes is_store count (Some d) = not (is_store && is_input d.role) && (length d.extents == count)

abbrev pub value_step : Known → Val-F Bool → Bool
value_step known (val.Load id subs) = takes false (length subs) (slice_get known.arrays id.0) && ixs_known known subs
value_step known (val.Const n) = nat_lt n (2 ^ 64)
value_step known (val.Cast e) = ix_known known e
value_step known (val.Not a) = a
value_step known (val.Bin op a b) = a && b
value_step known (val.Shift left a by) = nat_le by 63 && a

abbrev pub value_known : Known → Val → Bool
value_known known v = by_val (value_step known) v

-- ---- Statements

abbrev pub is_bound : Rel → Bool
is_bound Less = true
is_bound LessEqual = true
is_bound _ = false

abbrev pub local_known : Known → Local → Bool
local_known known l = is_new known false l.name && ix_known known l.value

-- each sees those before it
abbrev pub locals_known : Known → (before : List Local) → List Local → Bool
locals_known known before [] = true
locals_known known before (l ∷ ls) = local_known (and_locals known before) l && locals_known known (before ++ l ∷ []) ls

abbrev pub all_at : Known → List (Known → Bool) → Bool
all_at known [] = true
all_at known (f ∷ fs) = f known && all_at known fs

-- a loop's head, an assignment, a block's locals
abbrev pub for_known : Known → Name → Ix → Rel → Ix → Bool
for_known known iter low rel high = is_new known true iter && (is_bound rel && (ix_known known low && ix_known known high))

abbrev pub assign_known : Known → (array : ℕ) → List Ix → Val → Bool
assign_known known array subs v = takes true (length subs) (slice_get known.arrays array) && (ixs_known known subs && value_known known v)

abbrev pub block_known : Known → List Local → Bool
block_known known ls = (known.prelude || is_none ls) && locals_known known [] ls

abbrev pub stmt_step : Stmt-F (Known → Bool) → Known → Bool
stmt_step (stmt.For iter low rel high body) known = for_known known iter low rel high && all_at (and_iterator known iter) body
stmt_step (stmt.If c body other) known = cond_known known c && (all_at known body && all_at known other)
stmt_step (stmt.Assign op id subs v) known = assign_known known id.0 subs v
stmt_step (stmt.Block ls body) known = block_known known ls && all_at (and_locals known ls) body

abbrev pub stmt_known : Stmt → Known → Bool
stmt_known s = by_stmt stmt_step s

abbrev pub stmts_known : Known → List Stmt → Bool
stmts_known known body = all_at known (map stmt_known body)

-- ---- The program

abbrev pub param_name : Param → Name
param_name (Number w low high) = w
param_name (Array d) = d.name

abbrev pub is_number : Param → Bool
is_number (Number w low high) = true
is_number (Array d) = false

abbrev pub number_count : List Param → ℕ
number_count qs = count_by is_number qs

abbrev pub param_arrays : List Param → List Decl
param_arrays [] = []
param_arrays (Number w low high ∷ qs) = param_arrays qs
param_arrays (Array d ∷ qs) = d ∷ param_arrays qs

-- behind some of the parameters, and some of the temporaries
abbrev pub known_behind : (prelude : Bool) → (function : Name) → List Param → List Decl → Known
known_behind prelude function qs ds = record {
  prelude = prelude;
  is_taken = λ v. same function v || (list_any (λ q. same (param_name q) v) qs || list_any (λ d. same d.name v) ds);
  numbers = number_count qs;
  arrays = param_arrays qs ++ ds;
}

-- a parameter that is an array has an extent, and is an input or an output
abbrev pub is_temp : Role → Bool
is_temp Temp = true
is_temp _ = false

abbrev pub extents_known : Known → List Ix → Bool
extents_known known es = not (is_none es) && ixs_known known es

abbrev pub array_param_known : Known → Decl → Bool
array_param_known known d = is_new known false d.name && (not (is_temp d.role) && extents_known known d.extents)

-- an end of a range
abbrev pub is_int : ℤ → Bool
is_int n = nat_lt (nat_abs n) (2 ^ 64)

abbrev pub param_known : Known → Param → Bool
param_known known (Number w low high) = is_new known false w && (is_int low && is_int high)
param_known known (Array d) = array_param_known known d

abbrev pub params_known : (prelude : Bool) → (function : Name) → (before : List Param) → List Param → Bool
params_known prelude f before [] = true
params_known prelude f before (q ∷ qs) = param_known (known_behind prelude f before []) q && params_known prelude f (before ++ q ∷ []) qs

abbrev pub temp_known : Known → Decl → Bool
temp_known known d = is_new known false d.name && (is_temp d.role && ixs_known known d.extents)

abbrev pub temps_known : (prelude : Bool) → (function : Name) → List Param → (before : List Decl) → List Decl → Bool
temps_known prelude f qs before [] = true
temps_known prelude f qs before (d ∷ ds) = temp_known (known_behind prelude f qs before) d && temps_known prelude f qs (before ++ d ∷ []) ds

abbrev pub is_function : Name → Bool
is_function w = is_word w && not (is_reserved w)

abbrev pub context_known : Program → Bool
context_known p = compares_known (known_behind p.prelude p.name p.params []) p.context

abbrev pub body_known : Program → Bool
body_known p = stmts_known (known_behind p.prelude p.name p.params p.temps) p.body

-- A program with a parameter, each part of which a text can say where it stands.
abbrev pub program_known : Program → Bool
program_known p =
    is_function p.name
    && (not (is_none p.params)
    && (params_known p.prelude p.name [] p.params
    && (context_known p
    && (temps_known p.prelude p.name p.params [] p.temps
    && body_known p))))

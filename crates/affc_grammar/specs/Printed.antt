-- The text as which a program is printed. It has braces round every body, names from the tree, and parentheses round an operand whose operator binds looser
-- (on the right, also as tightly), round a negation except by itself and left of "+" and "-", and round a call under a minus.
--
-- What no text can say (a negative literal, a shift past 63, a divisor below 1, a call without the prelude, conditions joined that are none, "!=" in the context, an
-- array parameter without extents, a number of nothing) is written as something else here; no text reads as a tree with such a part.
use Rattle.std.specs.Prelude.{◌+◌, Bool, true, false, not, ◌||◌, List, [], ◌∷◌, ◌++◌, map, codes, IsTrue, refl, Option, Some, None, ℤ, pos, negsuc, nat_abs, slice_get, unwrap_or, decimal as digits_of}
use Rattle.affc_ast.specs.declared.tree.NameId.{NameId}
use Rattle.affc_ast.specs.declared.tree.ArrayId.{ArrayId}
use Rattle.affc_ast.specs.declared.tree.Ix.{Ix}
use Rattle.affc_ast.specs.declared.tree.Ix.TheOpen as ix
use Rattle.affc_ast.specs.declared.tree.Ix.TheOpen.{Ix-F}
use Rattle.affc_ast.specs.declared.tree.Op.{Op}
use Rattle.affc_ast.specs.declared.tree.Op.TheVariants.{Add, Sub, Mul, And, Or, Xor}
use Rattle.affc_ast.specs.declared.tree.Val.{Val}
use Rattle.affc_ast.specs.declared.tree.Val.TheOpen as val
use Rattle.affc_ast.specs.declared.tree.Val.TheOpen.{Val-F}
use Rattle.affc_ast.specs.declared.tree.Rel.{Rel}
use Rattle.affc_ast.specs.declared.tree.Rel.TheVariants.{Less}
use Rattle.affc_ast.specs.declared.tree.Compare.{Compare}
use Rattle.affc_ast.specs.declared.tree.Cond.{Cond}
use Rattle.affc_ast.specs.declared.tree.Cond.TheOpen as cond
use Rattle.affc_ast.specs.declared.tree.Cond.TheOpen.{Cond-F}
use Rattle.affc_ast.specs.Joined.{is_ordered}
use Rattle.affc_ast.specs.declared.tree.Local.{Local}
use Rattle.affc_ast.specs.declared.tree.Stmt.{Stmt}
use Rattle.affc_ast.specs.declared.tree.Stmt.TheOpen as stmt
use Rattle.affc_ast.specs.declared.tree.Stmt.TheOpen.{Stmt-F}
use Rattle.affc_ast.specs.declared.tree.Decl.{Decl}
use Rattle.affc_ast.specs.declared.tree.Param.{Param}
use Rattle.affc_ast.specs.declared.tree.Param.TheVariants.{Number, Array}
use Rattle.affc_ast.specs.declared.tree.Program.{Program}
use Rattle.affc_ast.specs.Recursion.{by_ix, by_val, by_cond, by_stmt}
pub use Rattle.affc_grammar.specs.Names.{is_input}
pub use Rattle.affc_grammar.specs.Reading.{holding}
use Rattle.affc_grammar.specs.Grammar.{Name, Digits, Choice, minimum, maximum, remainder, Rounding, down, up, is_divisor, is_shift, IxText, term, plus, minus, TermText, factor, times, FactorText, atom, negated, AtomText, literal, name, grouped, chosen, divided, DimsText, no_dims, and_dim, CondText, all_of, or_all, AllText, prim, and_prim, PrimText, enclosed, compared, divisible, ValueText, complement, load, constant, parens, cast, operand, binary, shift, then_up, LocalsText, no_locals, and_local, StmtsText, no_stmts, and_stmt, StmtText, simple, block, for_loop, if_then, if_else, assign, braces, ParamText, number_param, array_param, ParamsText, param, and_param, one_array, DeclsText, no_decls, and_decl, IntText, PragmasText, no_pragmas, and_range, and_context, line_feed, Text, FunctionText, context_calls}

-- the names of the numbers and the arrays that are visible, by their numbers
pub record Names : Type 0 where
  pub numbers : List Name
  pub arrays : List Name

abbrev pub number_name : Names → NameId → Name
number_name names id = unwrap_or (slice_get names.numbers id.0) []

abbrev pub array_name : Names → ArrayId → Name
array_name names id = unwrap_or (slice_get names.arrays id.0) []

abbrev pub and_number : Names → Name → Names
and_number names w = record names { numbers = names.numbers ++ w ∷ [] }

abbrev pub and_array_name : Names → Name → Names
and_array_name names w = record names { arrays = names.arrays ++ w ∷ [] }

-- ---- Whole-number expressions

-- an expression at each place where one stands, in parentheses or without
pub record IxWritten (prelude : Bool) : Type 0 where
  -- by itself, or left of "+" and "-"
  pub whole : IxText prelude
  -- right of "+" and "-"
  pub right_of_sum : TermText prelude
  pub left_of_product : TermText prelude
  pub right_of_product : FactorText prelude
  pub under_minus : AtomText prelude

-- a sum or a difference
abbrev pub sum_written : {prelude : Bool} → IxText prelude → IxWritten prelude
sum_written a =
    let inside = grouped a in
    record { whole = a; right_of_sum = factor (atom inside); left_of_product = factor (atom inside); right_of_product = atom inside; under_minus = inside }

abbrev pub product_written : {prelude : Bool} → TermText prelude → IxWritten prelude
product_written a =
    let inside = grouped (term a) in
    record { whole = term a; right_of_sum = a; left_of_product = a; right_of_product = atom inside; under_minus = inside }

abbrev pub negation_written : {prelude : Bool} → FactorText prelude → IxWritten prelude
negation_written a = sum_written (term (factor a))

-- a literal or a name
abbrev pub atom_written : {prelude : Bool} → AtomText prelude → IxWritten prelude
atom_written a = record { whole = term (factor (atom a)); right_of_sum = factor (atom a); left_of_product = factor (atom a); right_of_product = atom a; under_minus = a }

-- under a minus a call is in parentheses
abbrev pub call_written : {prelude : Bool} → AtomText prelude → IxWritten prelude
call_written a = record (atom_written a) { under_minus = grouped (term (factor (atom a))) }

abbrev pub nothing_written : {prelude : Bool} → IxWritten prelude
nothing_written = atom_written (literal (codes "0"))

abbrev pub chosen_written : (prelude : Bool) → Choice → IxText prelude → IxText prelude → IxWritten prelude
chosen_written true f a b = call_written (chosen refl f a b)
chosen_written false f a b = nothing_written

abbrev pub divided_by : (by : Digits) → Option (IsTrue (is_divisor by)) → Rounding → IxText true → IxWritten true
divided_by by None f a = nothing_written
divided_by by (Some h) f a = call_written (divided refl f a by h)

abbrev pub divided_written : (prelude : Bool) → Rounding → IxText prelude → ℤ → IxWritten prelude
divided_written true f a by = let digits = digits_of (nat_abs by) in divided_by digits (holding (is_divisor digits)) f a
divided_written false f a by = nothing_written

abbrev pub ix_step : (prelude : Bool) → Names → Ix-F (IxWritten prelude) → IxWritten prelude
ix_step prelude names (ix.Lit n) = atom_written (literal (digits_of (nat_abs n)))
ix_step prelude names (ix.Name id) = atom_written (name (number_name names id))
ix_step prelude names (ix.Neg a) = negation_written (negated a.under_minus)
ix_step prelude names (ix.Add a b) = sum_written (plus a.whole b.right_of_sum)
ix_step prelude names (ix.Sub a b) = sum_written (minus a.whole b.right_of_sum)
ix_step prelude names (ix.Mul a b) = product_written (times a.left_of_product b.right_of_product)
ix_step prelude names (ix.Min a b) = chosen_written prelude minimum a.whole b.whole
ix_step prelude names (ix.Max a b) = chosen_written prelude maximum a.whole b.whole
ix_step prelude names (ix.Mod a b) = chosen_written prelude remainder a.whole b.whole
ix_step prelude names (ix.Floord a by) = divided_written prelude down a.whole by
ix_step prelude names (ix.Ceild a by) = divided_written prelude up a.whole by

abbrev pub ix_written : (prelude : Bool) → Names → Ix → IxWritten prelude
ix_written prelude names e = by_ix (ix_step prelude names) e

abbrev pub ix_text : (prelude : Bool) → Names → Ix → IxText prelude
ix_text prelude names e = (ix_written prelude names e).whole

abbrev pub and_dims : (prelude : Bool) → Names → DimsText prelude → List Ix → DimsText prelude
and_dims prelude names ds [] = ds
and_dims prelude names ds (e ∷ es) = and_dims prelude names (and_dim ds (ix_text prelude names e)) es

abbrev pub dims_text : (prelude : Bool) → Names → List Ix → DimsText prelude
dims_text prelude names es = and_dims prelude names no_dims es

-- ---- Conditions

-- a condition at each place where one stands
pub record CondWritten (prelude : Bool) : Type 0 where
  -- by itself
  pub whole : CondText prelude true
  -- beside "||", and beside "&&"
  pub in_any : AllText prelude true
  pub in_all : PrimText prelude true

-- a comparison or a remainder
abbrev pub prim_written : {prelude : Bool} → PrimText prelude true → CondWritten prelude
prim_written q = record { whole = all_of (prim q); in_any = prim q; in_all = q }

abbrev pub all_written : {prelude : Bool} → AllText prelude true → CondWritten prelude
all_written a = record { whole = all_of a; in_any = a; in_all = enclosed (all_of a) }

abbrev pub any_written : {prelude : Bool} → CondText prelude true → CondWritten prelude
any_written c = record { whole = c; in_any = prim (enclosed c); in_all = enclosed c }

abbrev pub and_prims : {prelude : Bool} → AllText prelude true → List (CondWritten prelude) → AllText prelude true
and_prims a [] = a
and_prims a (c ∷ cs) = and_prims (and_prim a c.in_all) cs

abbrev pub or_alls : {prelude : Bool} → CondText prelude true → List (CondWritten prelude) → CondText prelude true
or_alls a [] = a
or_alls a (c ∷ cs) = or_alls (or_all refl a c.in_any) cs

abbrev pub no_condition : {prelude : Bool} → CondWritten prelude
no_condition = prim_written (compared nothing_written.whole Less refl nothing_written.whole)

abbrev pub divisible_by : {prelude : Bool} → TermText prelude → (by : Digits) → Option (IsTrue (is_divisor by)) → (so : Bool) → CondWritten prelude
divisible_by t by None so = no_condition
divisible_by t by (Some h) so = prim_written (divisible refl t by h so)

abbrev pub cond_step : (prelude : Bool) → Names → Cond-F (CondWritten prelude) → CondWritten prelude
cond_step prelude names (cond.Compare rel left right) = prim_written (compared (ix_text prelude names left) rel refl (ix_text prelude names right))
cond_step prelude names (cond.All []) = no_condition
cond_step prelude names (cond.All (c ∷ cs)) = all_written (and_prims (prim c.in_all) cs)
cond_step prelude names (cond.Any []) = no_condition
cond_step prelude names (cond.Any (c ∷ cs)) = any_written (or_alls (all_of c.in_any) cs)
cond_step prelude names (cond.Divides value by so) = let digits = digits_of (nat_abs by) in divisible_by (ix_written prelude names value).right_of_sum digits (holding (is_divisor digits)) so

abbrev pub cond_text : (prelude : Bool) → Names → Cond → CondText prelude true
cond_text prelude names c = (by_cond (cond_step prelude names) c).whole

-- the conditions of a `context` line, which can't say "!="
abbrev pub test_by : Names → (c : Compare) → Option (IsTrue (is_ordered c.rel)) → PrimText true false
test_by names c None = compared nothing_written.whole Less refl nothing_written.whole
test_by names c (Some h) = compared (ix_text true names c.left) c.rel h (ix_text true names c.right)

abbrev pub test_text : Names → Compare → PrimText true false
test_text names c = test_by names c (holding (is_ordered c.rel))

abbrev pub and_tests : Names → AllText true false → List Compare → AllText true false
and_tests names a [] = a
and_tests names a (c ∷ cs) = and_tests names (and_prim a (test_text names c)) cs

abbrev pub tests_text : Names → Compare → List Compare → CondText true false
tests_text names c cs = all_of (and_tests names (prim (test_text names c)) cs)

-- ---- Values

-- a value at each level, in parentheses where it is looser
pub record ValueWritten (prelude : Bool) : Type 0 where
  pub level_0 : ValueText prelude 0
  pub level_1 : ValueText prelude 1
  pub level_2 : ValueText prelude 2
  pub level_3 : ValueText prelude 3
  pub level_4 : ValueText prelude 4
  pub level_5 : ValueText prelude 5
  pub level_6 : ValueText prelude 6

-- of a level, and in parentheses at those below
abbrev pub of_levels : {prelude : Bool} → ValueText prelude 0 → (ValueText prelude 0 → ValueText prelude 1) → (ValueText prelude 1 → ValueText prelude 2) → (ValueText prelude 2 → ValueText prelude 3) → (ValueText prelude 3 → ValueText prelude 4) → (ValueText prelude 4 → ValueText prelude 5) → (ValueText prelude 5 → ValueText prelude 6) → ValueWritten prelude
of_levels v0 f1 f2 f3 f4 f5 f6 =
    let v1 = f1 v0 in
    let v2 = f2 v1 in
    let v3 = f3 v2 in
    let v4 = f4 v3 in
    let v5 = f5 v4 in
    record { level_0 = v0; level_1 = v1; level_2 = v2; level_3 = v3; level_4 = v4; level_5 = v5; level_6 = f6 v5 }

abbrev pub primary_written : {prelude : Bool} → ValueText prelude 0 → ValueWritten prelude
primary_written v = of_levels v operand operand operand operand operand operand

abbrev pub times_written : {prelude : Bool} → ValueText prelude 1 → ValueWritten prelude
times_written v = of_levels (parens (operand (operand (operand (operand (operand v)))))) (λ _. v) operand operand operand operand operand

abbrev pub plus_written : {prelude : Bool} → ValueText prelude 2 → ValueWritten prelude
plus_written v = of_levels (parens (operand (operand (operand (operand v))))) operand (λ _. v) operand operand operand operand

abbrev pub shift_written : {prelude : Bool} → ValueText prelude 3 → ValueWritten prelude
shift_written v = of_levels (parens (operand (operand (operand v)))) operand operand (λ _. v) operand operand operand

abbrev pub and_written : {prelude : Bool} → ValueText prelude 4 → ValueWritten prelude
and_written v = of_levels (parens (operand (operand v))) operand operand operand (λ _. v) operand operand

abbrev pub xor_written : {prelude : Bool} → ValueText prelude 5 → ValueWritten prelude
xor_written v = of_levels (parens (operand v)) operand operand operand operand (λ _. v) operand

abbrev pub or_written : {prelude : Bool} → ValueText prelude 6 → ValueWritten prelude
or_written v = of_levels (parens v) operand operand operand operand operand (λ _. v)

abbrev pub binary_written : {prelude : Bool} → Op → ValueWritten prelude → ValueWritten prelude → ValueWritten prelude
binary_written Mul a b = times_written (binary a.level_1 Mul refl b.level_0)
binary_written Add a b = plus_written (binary a.level_2 Add refl b.level_1)
binary_written Sub a b = plus_written (binary a.level_2 Sub refl b.level_1)
binary_written And a b = and_written (binary a.level_4 And refl b.level_3)
binary_written Xor a b = xor_written (binary a.level_5 Xor refl b.level_4)
binary_written Or a b = or_written (binary a.level_6 Or refl b.level_5)

abbrev pub shift_by : {prelude : Bool} (left : Bool) → ValueText prelude 3 → (by : Digits) → Option (IsTrue (is_shift by)) → ValueText prelude 3
shift_by left v by None = shift v left (codes "0") refl
shift_by left v by (Some h) = shift v left by h

abbrev pub value_step : (prelude : Bool) → Names → Val-F (ValueWritten prelude) → ValueWritten prelude
value_step prelude names (val.Load id subs) = primary_written (load (array_name names id) (dims_text prelude names subs))
value_step prelude names (val.Const n) = primary_written (constant (digits_of n ++ codes "ULL"))
value_step prelude names (val.Cast e) = primary_written (cast (ix_text prelude names e))
value_step prelude names (val.Not a) = primary_written (complement a.level_0)
value_step prelude names (val.Bin op a b) = binary_written op a b
value_step prelude names (val.Shift left a by) = let digits = digits_of by in shift_written (shift_by left a.level_3 digits (holding (is_shift digits)))

abbrev pub value_text : (prelude : Bool) → Names → Val → ValueText prelude 6
value_text prelude names v = (by_val (value_step prelude names) v).level_6

-- ---- Statements

abbrev pub is_less : Rel → Bool
is_less Less = true
is_less _ = false

abbrev pub local_text : (prelude : Bool) → Names → LocalsText prelude → Local → LocalsText prelude
local_text true names ls l = and_local refl ls l.name (ix_text true names l.value)
local_text false names ls l = ls

abbrev pub locals_text : (prelude : Bool) → Names → LocalsText prelude → List Local → LocalsText prelude × Names
locals_text prelude names ls [] = (ls, names)
locals_text prelude names ls (l ∷ more) = locals_text prelude (and_number names l.name) (local_text prelude names ls l) more

abbrev pub stmts_text : {prelude : Bool} → Names → StmtsText prelude → List (Names → StmtText prelude) → StmtsText prelude
stmts_text names ss [] = ss
stmts_text names ss (s ∷ more) = stmts_text names (and_stmt ss (s names)) more

abbrev pub stmt_step : (prelude : Bool) → Stmt-F (Names → StmtText prelude) → Names → StmtText prelude
stmt_step prelude (stmt.For iter low rel high body) names =
    simple (for_loop iter (ix_text prelude names low) iter (is_less rel) (ix_text prelude names high) (then_up iter) (braces (stmts_text (and_number names iter) no_stmts body)))
stmt_step prelude (stmt.If c body []) names = simple (if_then (cond_text prelude names c) (braces (stmts_text names no_stmts body)))
stmt_step prelude (stmt.If c body (s ∷ ss)) names = simple (if_else (cond_text prelude names c) (braces (stmts_text names no_stmts body)) (braces (stmts_text names no_stmts (s ∷ ss))))
stmt_step prelude (stmt.Assign op id subs v) names = simple (assign (array_name names id) (dims_text prelude names subs) op (value_text prelude names v))
stmt_step prelude (stmt.Block ls body) names = let r = locals_text prelude names no_locals ls in block r.0 (stmts_text r.1 no_stmts body)

abbrev pub stmt_text : (prelude : Bool) → Stmt → Names → StmtText prelude
stmt_text prelude s = by_stmt (stmt_step prelude) s

-- ---- The program

abbrev pub array_text : (prelude : Bool) → Names → Decl → List Ix → ParamText prelude
array_text prelude names d [] = array_param (is_input d.role) d.name nothing_written.whole no_dims
array_text prelude names d (e ∷ es) = array_param (is_input d.role) d.name (ix_text prelude names e) (dims_text prelude names es)

abbrev pub param_text : (prelude : Bool) → Names → Param → ParamText prelude
param_text prelude names (Number w low high) = number_param w
param_text prelude names (Array d) = array_text prelude names d d.extents

abbrev pub and_param_name : Names → Param → Names
and_param_name names (Number w low high) = and_number names w
and_param_name names (Array d) = and_array_name names d.name

abbrev pub and_params : (prelude : Bool) → Names → ParamsText prelude → List Param → ParamsText prelude × Names
and_params prelude names ps [] = (ps, names)
and_params prelude names ps (q ∷ qs) = and_params prelude (and_param_name names q) (and_param ps (param_text prelude names q)) qs

abbrev pub no_names : Names
no_names = record { numbers = []; arrays = [] }

abbrev pub params_text : (prelude : Bool) → List Param → ParamsText prelude × Names
params_text prelude [] = (param (number_param []), no_names)
params_text prelude (q ∷ qs) = and_params prelude (and_param_name no_names q) (param (param_text prelude no_names q)) qs

-- a declaration for each temporary
abbrev pub decls_text : (prelude : Bool) → Names → DeclsText prelude → List Decl → DeclsText prelude × Names
decls_text prelude names ds [] = (ds, names)
decls_text prelude names ds (d ∷ more) = decls_text prelude (and_array_name names d.name) (and_decl ds (one_array d.name (dims_text prelude names d.extents))) more

abbrev pub int_text : ℤ → IntText
int_text (pos n) = record { negative = false; digits = digits_of n }
int_text (negsuc n) = record { negative = true; digits = digits_of (n + 1) }

-- a line for each parameter that is a number
abbrev pub ranges_text : PragmasText → List Param → PragmasText
ranges_text ps [] = ps
ranges_text ps (Number w low high ∷ qs) = ranges_text (and_range ps w (int_text low) (int_text high) line_feed) qs
ranges_text ps (Array d ∷ qs) = ranges_text ps qs

-- one line with all conditions, if there are any
abbrev pub context_text : Names → PragmasText → List Compare → PragmasText
context_text names ps [] = ps
context_text names ps (c ∷ cs) = and_context ps (tests_text names c cs) line_feed

abbrev pub without_calls : (b : Bool) → IsTrue (b || true)
without_calls true = refl
without_calls false = refl

abbrev pub function_text : (prelude : Bool) → Program → FunctionText prelude
function_text prelude p =
    let params = params_text prelude p.params in
    let decls = decls_text prelude params.1 no_decls p.temps in
    record { name = p.name; params = params.0; decls = decls.0; stmts = stmts_text decls.1 no_stmts (map (stmt_text prelude) p.body) }

abbrev pub with_pragmas : (p : Program) (ps : PragmasText) → Option (IsTrue (p.prelude || not (context_calls ps))) → Text
with_pragmas p ps (Some h) = record { line = line_feed; pragmas = ps; has_prelude = p.prelude; calls_allowed = h; function = function_text p.prelude p }
with_pragmas p ps None = record { line = line_feed; pragmas = no_pragmas; has_prelude = p.prelude; calls_allowed = without_calls p.prelude; function = function_text p.prelude p }

abbrev pub printed : Program → Text
printed p =
    let ps = context_text (params_text true p.params).1 (ranges_text no_pragmas p.params) p.context in
    with_pragmas p ps (holding (p.prelude || not (context_calls ps)))

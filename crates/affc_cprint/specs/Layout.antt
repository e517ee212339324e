-- How a text of the grammar is laid out: two spaces for each level, one statement, brace or declaration in a line, a line feed at each line's end.
-- A binary operator has a space on both sides, `~` and the minus of a negation none, a comma has one behind it.
use Rattle.std.specs.Prelude.{ℕ, zero, suc, Bool, true, false, List, [], ◌++◌, codes, if◌then◌else◌}
use Rattle.affc_lex.specs.Pieces.{prelude}
use Rattle.affc_ast.specs.declared.tree.Program.{Program}
use Rattle.affc_grammar.specs.Grammar.{IxText, term, plus, minus, TermText, factor, times, FactorText, atom, negated, AtomText, literal, name, grouped, chosen, divided, DimsText, no_dims, and_dim, CondText, all_of, or_all, AllText, prim, and_prim, PrimText, enclosed, compared, divisible, ValueText, complement, load, constant, parens, cast, operand, binary, shift, StepText, then_up, up_then, up_by_one, LocalsText, no_locals, and_local, StmtsText, no_stmts, and_stmt, StmtText, simple, block, SimpleText, for_loop, if_then, if_else, assign, BodyText, braces, bare, ParamText, number_param, array_param, ParamsText, param, and_param, NamesText, one_array, and_array, DeclsText, no_decls, and_decl, FunctionText, IntText, LineText, line_feed, text_end, PragmasText, no_pragmas, and_range, and_context, choice_name, rounding_name, rel_mark, zero_mark, op_mark, shift_mark, bound_mark, assign_mark}
use Rattle.affc_grammar.specs.Printed.{params_text, ranges_text, context_text, function_text}

-- as `++`, grouped to the right
infixr 20 ◌then◌
abbrev pub ◌then◌ : List ℕ → List ℕ → List ℕ
xs then ys = xs ++ ys

-- ---- Expressions

abbrev mutual
  pub ix_layout : {prelude : Bool} → IxText prelude → List ℕ
  ix_layout (term a) = term_layout a
  ix_layout (plus a b) = ix_layout a then codes " + " then term_layout b
  ix_layout (minus a b) = ix_layout a then codes " - " then term_layout b

  pub term_layout : {prelude : Bool} → TermText prelude → List ℕ
  term_layout (factor a) = factor_layout a
  term_layout (times a b) = term_layout a then codes " * " then factor_layout b

  pub factor_layout : {prelude : Bool} → FactorText prelude → List ℕ
  factor_layout (atom a) = atom_layout a
  factor_layout (negated a) = codes "-" then atom_layout a

  pub atom_layout : {prelude : Bool} → AtomText prelude → List ℕ
  atom_layout (literal digits) = digits
  atom_layout (name w) = w
  atom_layout (grouped a) = codes "(" then ix_layout a then codes ")"
  atom_layout (chosen _ f a b) = choice_name f then codes "(" then ix_layout a then codes ", " then ix_layout b then codes ")"
  atom_layout (divided _ f a by _) = rounding_name f then codes "(" then ix_layout a then codes ", " then by then codes ")"

abbrev pub dims_layout : {prelude : Bool} → DimsText prelude → List ℕ
dims_layout no_dims = []
dims_layout (and_dim ds a) = dims_layout ds then codes "[" then ix_layout a then codes "]"

abbrev mutual
  pub cond_layout : {prelude wide : Bool} → CondText prelude wide → List ℕ
  cond_layout (all_of a) = all_layout a
  cond_layout (or_all _ c a) = cond_layout c then codes " || " then all_layout a

  pub all_layout : {prelude wide : Bool} → AllText prelude wide → List ℕ
  all_layout (prim q) = prim_layout q
  all_layout (and_prim a q) = all_layout a then codes " && " then prim_layout q

  pub prim_layout : {prelude wide : Bool} → PrimText prelude wide → List ℕ
  prim_layout (enclosed c) = codes "(" then cond_layout c then codes ")"
  prim_layout (compared a rel _ b) = ix_layout a then codes " " then rel_mark rel then codes " " then ix_layout b
  prim_layout (divisible _ t by _ so) = term_layout t then codes " % " then by then codes " " then zero_mark so then codes " 0"

abbrev pub value_layout : {prelude : Bool} {n : ℕ} → ValueText prelude n → List ℕ
value_layout (complement v) = codes "~" then value_layout v
value_layout (load array subs) = array then dims_layout subs
value_layout (constant bytes) = bytes
value_layout (parens v) = codes "(" then value_layout v then codes ")"
value_layout (cast a) = codes "(uint64_t)(" then ix_layout a then codes ")"
value_layout (operand v) = value_layout v
value_layout (binary a op _ b) = value_layout a then codes " " then op_mark op then codes " " then value_layout b
value_layout (shift v left by _) = value_layout v then codes " " then shift_mark left then codes " " then by

-- ---- Statements

-- two spaces for each level
abbrev pub indent : ℕ → List ℕ
indent zero = []
indent (suc level) = codes "  " then indent level

abbrev pub step_layout : StepText → List ℕ
step_layout (then_up w) = w then codes "++"
step_layout (up_then w) = codes "++" then w
step_layout (up_by_one w) = w then codes " += 1"

abbrev pub locals_layout : {prelude : Bool} → (level : ℕ) → LocalsText prelude → List ℕ
locals_layout level no_locals = []
locals_layout level (and_local _ ls w a) = locals_layout level ls then indent level then codes "const int64_t " then w then codes " = " then ix_layout a then codes ";\n"

abbrev mutual
  pub stmts_layout : {prelude : Bool} → (level : ℕ) → StmtsText prelude → List ℕ
  stmts_layout level no_stmts = []
  stmts_layout level (and_stmt ss s) = stmts_layout level ss then indent level then stmt_layout level s

  -- a statement of this level, without the spaces before it
  pub stmt_layout : {prelude : Bool} → (level : ℕ) → StmtText prelude → List ℕ
  stmt_layout level (simple s) = simple_layout level s
  stmt_layout level (block ls ss) = codes "{\n" then locals_layout (suc level) ls then stmts_layout (suc level) ss then indent level then codes "}\n"

  pub simple_layout : {prelude dangles : Bool} → (level : ℕ) → SimpleText prelude dangles → List ℕ
  simple_layout level (for_loop iterator low tested strict high step body) =
      codes "for (int64_t " then iterator then codes " = " then ix_layout low then codes "; " then tested then codes " " then bound_mark strict then codes " " then ix_layout high then codes "; " then step_layout step then codes ")" then body_layout level body
  simple_layout level (if_then c body) = codes "if (" then cond_layout c then codes ")" then body_layout level body
  simple_layout level (if_else c body other) = codes "if (" then cond_layout c then codes ")" then body_before_else level body then body_layout level other
  simple_layout level (assign array subs op v) = array then dims_layout subs then codes " " then assign_mark op then codes " " then value_layout v then codes ";\n"

  -- up to the word `else`, which stands behind a brace in the brace's line
  pub body_before_else : {prelude dangles : Bool} → (level : ℕ) → BodyText prelude dangles → List ℕ
  body_before_else level (braces ss) = codes " {\n" then stmts_layout (suc level) ss then indent level then codes "} else"
  body_before_else level (bare s) = codes " " then simple_layout level s then indent level then codes "else"

  pub body_layout : {prelude dangles : Bool} → (level : ℕ) → BodyText prelude dangles → List ℕ
  body_layout level (braces ss) = codes " {\n" then stmts_layout (suc level) ss then indent level then codes "}\n"
  body_layout level (bare s) = codes " " then simple_layout level s

-- ---- The function

abbrev pub const_layout : (is_const : Bool) → List ℕ
const_layout true = codes "const "
const_layout false = []

abbrev pub param_layout : {prelude : Bool} → ParamText prelude → List ℕ
param_layout (number_param w) = codes "int64_t " then w
param_layout (array_param is_const w first others) = const_layout is_const then codes "uint64_t " then w then codes "[" then ix_layout first then codes "]" then dims_layout others

abbrev pub params_layout : {prelude : Bool} → ParamsText prelude → List ℕ
params_layout (param a) = param_layout a
params_layout (and_param ps a) = params_layout ps then codes ", " then param_layout a

abbrev pub names_layout : {prelude : Bool} → NamesText prelude → List ℕ
names_layout (one_array w dims) = w then dims_layout dims
names_layout (and_array ns w dims) = names_layout ns then codes ", " then w then dims_layout dims

abbrev pub decls_layout : {prelude : Bool} → DeclsText prelude → List ℕ
decls_layout no_decls = []
decls_layout (and_decl ds ns) = decls_layout ds then codes "  uint64_t " then names_layout ns then codes ";\n"

abbrev pub function_layout : {prelude : Bool} → FunctionText prelude → List ℕ
function_layout f = codes "void " then f.name then codes "(" then params_layout f.params then codes ") {\n" then decls_layout f.decls then stmts_layout 1 f.stmts then codes "}\n"

-- ---- The text

abbrev pub int_layout : IntText → List ℕ
int_layout i = if i.negative then codes "-" then i.digits else i.digits

abbrev pub line_layout : LineText → List ℕ
line_layout line_feed = codes "\n"
line_layout text_end = []

abbrev pub pragmas_layout : PragmasText → List ℕ
pragmas_layout no_pragmas = []
pragmas_layout (and_range ps w low high line) = pragmas_layout ps then codes "#pragma affc param " then w then codes " " then int_layout low then codes " " then int_layout high then line_layout line
pragmas_layout (and_context ps c line) = pragmas_layout ps then codes "#pragma affc context " then cond_layout c then line_layout line

abbrev pub prelude_layout : (has_prelude : Bool) → List ℕ
prelude_layout true = prelude
prelude_layout false = []

-- the lines for the parameters' ranges and for the context
abbrev pub pragmas_of : Program → PragmasText
pragmas_of p = context_text (params_text true p.params).1 (ranges_text no_pragmas p.params) p.context

-- The printed text of a program.
abbrev pub printed_text : Program → List ℕ
printed_text p = codes "#include <stdint.h>\n" then pragmas_layout (pragmas_of p) then prelude_layout p.prelude then function_layout (function_text p.prelude p)

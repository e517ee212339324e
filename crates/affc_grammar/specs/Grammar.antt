-- The grammar of programs. Each type is a rule and each of its cases a way to write it; `.._symbols` is how it is written. The line of the
-- grammar stands above the type: "a" is this token, [ a ] is a or nothing, { a } is any number of a, a | b is a or b.
use Rattle.std.specs.Prelude.{◌≡◌, ℕ, suc, Bool, true, false, not, ◌&&◌, ◌||◌, ◌==◌, nat_le, List, [], ◌∷◌, ◌++◌, codes, IsTrue, Option, Some, None, if◌then◌else◌}
use Rattle.affc_lex.specs.declared.token.Kind.{Kind}
use Rattle.affc_lex.specs.declared.token.Kind.TheVariants.{Value, Header, Hash, LineEnd, Prelude, Mark}
pub use Rattle.affc_ast.specs.Symbols.{Symbol, symbol, word, number, mark}
use Rattle.affc_lex.specs.Bytes.{same, decimal}
pub use Rattle.affc_lex.specs.Lexes.{is_word_kind}
use Rattle.affc_lex.specs.Pieces.{prelude}
use Rattle.affc_ast.specs.declared.tree.Op.{Op}
use Rattle.affc_ast.specs.declared.tree.Op.TheVariants.{Add, Sub, Mul, And, Or, Xor}
use Rattle.affc_ast.specs.declared.tree.Rel.{Rel}
use Rattle.affc_ast.specs.declared.tree.Rel.TheVariants.{Less, LessEqual, Greater, GreaterEqual, Equal, NotEqual}
use Rattle.affc_ast.specs.Joined.{is_ordered}

abbrev pub is_mark_kind : Kind → Bool
is_mark_kind Mark = true
is_mark_kind _ = false

-- the bytes of a Word, and of a Number
abbrev pub Name : Type 0
Name = List ℕ

abbrev pub Digits : Type 0
Digits = List ℕ

-- the end of a `#` line is a line feed, or the end of the text
pub data LineText : Type 0 where
  line_feed : LineText
  text_end : LineText

abbrev pub line_symbols : LineText → List Symbol
line_symbols line_feed = record { kind = LineEnd; bytes = codes "\n" } ∷ []
line_symbols text_end = record { kind = LineEnd; bytes = [] } ∷ []

-- ---- Whole-number expressions. Calls stand only in a text with the prelude.

pub data Choice : Type 0 where
  minimum : Choice
  maximum : Choice
  remainder : Choice

pub data Rounding : Type 0 where
  down : Rounding
  up : Rounding

abbrev pub choice_name : Choice → Name
choice_name minimum = codes "affc_min"
choice_name maximum = codes "affc_max"
choice_name remainder = codes "affc_mod"

abbrev pub rounding_name : Rounding → Name
rounding_name down = codes "affc_floord"
rounding_name up = codes "affc_ceild"

-- a Number of at least 1
abbrev pub is_divisor : Digits → Bool
is_divisor digits = nat_le 1 (decimal digits)

mutual
  -- ix = term { ( "+" | "-" ) term }
  pub data IxText (prelude : Bool) : Type 0 where
    term : TermText prelude → IxText prelude
    plus : IxText prelude → TermText prelude → IxText prelude
    minus : IxText prelude → TermText prelude → IxText prelude

  -- term = factor { "*" factor }
  pub data TermText (prelude : Bool) : Type 0 where
    factor : FactorText prelude → TermText prelude
    times : TermText prelude → FactorText prelude → TermText prelude

  -- factor = [ "-" ] atom
  pub data FactorText (prelude : Bool) : Type 0 where
    atom : AtomText prelude → FactorText prelude
    negated : AtomText prelude → FactorText prelude

  -- atom = Number | Word | "(" ix ")" | call
  -- call = ( "affc_min" | "affc_max" | "affc_mod" ) "(" ix "," ix ")" | ( "affc_floord" | "affc_ceild" ) "(" ix "," Number ")"     (with the prelude only)
  pub data AtomText (prelude : Bool) : Type 0 where
    literal : Digits → AtomText prelude
    name : Name → AtomText prelude
    grouped : IxText prelude → AtomText prelude
    chosen : IsTrue prelude → Choice → IxText prelude → IxText prelude → AtomText prelude
    divided : IsTrue prelude → Rounding → IxText prelude → (by : Digits) → IsTrue (is_divisor by) → AtomText prelude

abbrev mutual
  pub ix_symbols : {prelude : Bool} → IxText prelude → List Symbol
  ix_symbols (term a) = term_symbols a
  ix_symbols (plus a b) = ix_symbols a ++ mark (codes "+") ∷ term_symbols b
  ix_symbols (minus a b) = ix_symbols a ++ mark (codes "-") ∷ term_symbols b

  pub term_symbols : {prelude : Bool} → TermText prelude → List Symbol
  term_symbols (factor a) = factor_symbols a
  term_symbols (times a b) = term_symbols a ++ mark (codes "*") ∷ factor_symbols b

  pub factor_symbols : {prelude : Bool} → FactorText prelude → List Symbol
  factor_symbols (atom a) = atom_symbols a
  factor_symbols (negated a) = mark (codes "-") ∷ atom_symbols a

  pub atom_symbols : {prelude : Bool} → AtomText prelude → List Symbol
  atom_symbols (literal digits) = number digits ∷ []
  atom_symbols (name w) = word w ∷ []
  atom_symbols (grouped a) = mark (codes "(") ∷ (ix_symbols a ++ mark (codes ")") ∷ [])
  atom_symbols (chosen _ f a b) = word (choice_name f) ∷ mark (codes "(") ∷ (ix_symbols a ++ mark (codes ",") ∷ (ix_symbols b ++ mark (codes ")") ∷ []))
  atom_symbols (divided _ f a by _) = word (rounding_name f) ∷ mark (codes "(") ∷ (ix_symbols a ++ mark (codes ",") ∷ number by ∷ mark (codes ")") ∷ [])

-- { dim }
-- dim = "[" ix "]"
pub data DimsText (prelude : Bool) : Type 0 where
  no_dims : DimsText prelude
  and_dim : DimsText prelude → IxText prelude → DimsText prelude

abbrev pub dim_symbols : {prelude : Bool} → IxText prelude → List Symbol
dim_symbols a = mark (codes "[") ∷ (ix_symbols a ++ mark (codes "]") ∷ [])

abbrev pub dims_symbols : {prelude : Bool} → DimsText prelude → List Symbol
dims_symbols no_dims = []
dims_symbols (and_dim ds a) = dims_symbols ds ++ dim_symbols a

-- ---- Conditions (6.5.8, 6.5.9, 6.5.13, 6.5.14): of an `if`, which are wide, and of a `context` line, which are comparisons joined by "&&" without "!="

mutual
  -- cond = all { "||" all }     ("||" in an `if` only)
  pub data CondText (prelude wide : Bool) : Type 0 where
    all_of : AllText prelude wide → CondText prelude wide
    or_all : IsTrue wide → CondText prelude wide → AllText prelude wide → CondText prelude wide

  -- all = prim { "&&" prim }
  pub data AllText (prelude wide : Bool) : Type 0 where
    prim : PrimText prelude wide → AllText prelude wide
    and_prim : AllText prelude wide → PrimText prelude wide → AllText prelude wide

  -- prim = "(" cond ")" | ix rel ix | term "%" Number ( "==" | "!=" ) "0"     (a remainder in an `if` only, by at least 1)
  -- rel = "<" | "<=" | ">" | ">=" | "==" | "!="     ("!=" in an `if` only)
  pub data PrimText (prelude wide : Bool) : Type 0 where
    enclosed : CondText prelude wide → PrimText prelude wide
    compared : IxText prelude → (rel : Rel) → IsTrue (wide || is_ordered rel) → IxText prelude → PrimText prelude wide
    divisible : IsTrue wide → TermText prelude → (by : Digits) → IsTrue (is_divisor by) → (so : Bool) → PrimText prelude wide

abbrev pub rel_mark : Rel → List ℕ
rel_mark Less = codes "<"
rel_mark LessEqual = codes "<="
rel_mark Greater = codes ">"
rel_mark GreaterEqual = codes ">="
rel_mark Equal = codes "=="
rel_mark NotEqual = codes "!="

-- "==" where the remainder is to be 0
abbrev pub zero_mark : (so : Bool) → List ℕ
zero_mark true = codes "=="
zero_mark false = codes "!="

abbrev mutual
  pub cond_symbols : {prelude wide : Bool} → CondText prelude wide → List Symbol
  cond_symbols (all_of a) = all_symbols a
  cond_symbols (or_all _ c a) = cond_symbols c ++ mark (codes "||") ∷ all_symbols a

  pub all_symbols : {prelude wide : Bool} → AllText prelude wide → List Symbol
  all_symbols (prim q) = prim_symbols q
  all_symbols (and_prim a q) = all_symbols a ++ mark (codes "&&") ∷ prim_symbols q

  pub prim_symbols : {prelude wide : Bool} → PrimText prelude wide → List Symbol
  prim_symbols (enclosed c) = mark (codes "(") ∷ (cond_symbols c ++ mark (codes ")") ∷ [])
  prim_symbols (compared a rel _ b) = ix_symbols a ++ mark (rel_mark rel) ∷ ix_symbols b
  prim_symbols (divisible _ t by _ so) = term_symbols t ++ mark (codes "%") ∷ number by ∷ mark (zero_mark so) ∷ number (codes "0") ∷ []

-- ---- Values

-- how tightly an operator binds: v2 is level 1, v3 is level 2, v5 is level 4, v6 is level 5, and value is level 6
abbrev pub level_of : Op → ℕ
level_of Mul = 1
level_of Add = 2
level_of Sub = 2
level_of And = 4
level_of Xor = 5
level_of Or = 6

abbrev pub op_mark : Op → List ℕ
op_mark Mul = codes "*"
op_mark Add = codes "+"
op_mark Sub = codes "-"
op_mark And = codes "&"
op_mark Xor = codes "^"
op_mark Or = codes "|"

abbrev pub shift_mark : Bool → List ℕ
shift_mark true = codes "<<"
shift_mark false = codes ">>"

-- a Number from 0 to 63
abbrev pub is_shift : Digits → Bool
is_shift digits = nat_le (decimal digits) 63

-- v1 is level 0; a looser level is an operand of the level before, or an operation between its own level and the level before
pub data ValueText (prelude : Bool) : ℕ → Type 0 where
  -- v1 = "~" v1 | Word { dim } | Value | "(" value ")" | "(" "uint64_t" ")" "(" ix ")"
  complement : ValueText prelude 0 → ValueText prelude 0
  load : Name → DimsText prelude → ValueText prelude 0
  constant : (bytes : List ℕ) → ValueText prelude 0
  parens : ValueText prelude 6 → ValueText prelude 0
  cast : IxText prelude → ValueText prelude 0
  operand : {n : ℕ} → ValueText prelude n → ValueText prelude (suc n)
  -- v2 = v1 { "*" v1 }     v3 = v2 { ( "+" | "-" ) v2 }     v5 = v4 { "&" v4 }     v6 = v5 { "^" v5 }     value = v6 { "|" v6 }
  binary : {n : ℕ} → ValueText prelude (suc n) → (op : Op) → IsTrue (level_of op == suc n) → ValueText prelude n → ValueText prelude (suc n)
  -- v4 = v3 { ( "<<" | ">>" ) Number }     (0 to 63)
  shift : ValueText prelude 3 → (left : Bool) → (by : Digits) → IsTrue (is_shift by) → ValueText prelude 3

abbrev pub value_symbols : {prelude : Bool} {n : ℕ} → ValueText prelude n → List Symbol
value_symbols (complement v) = mark (codes "~") ∷ value_symbols v
value_symbols (load array subs) = word array ∷ dims_symbols subs
value_symbols (constant bytes) = record { kind = Value; bytes = bytes } ∷ []
value_symbols (parens v) = mark (codes "(") ∷ (value_symbols v ++ mark (codes ")") ∷ [])
value_symbols (cast a) = mark (codes "(") ∷ word (codes "uint64_t") ∷ mark (codes ")") ∷ mark (codes "(") ∷ (ix_symbols a ++ mark (codes ")") ∷ [])
value_symbols (operand v) = value_symbols v
value_symbols (binary a op _ b) = value_symbols a ++ mark (op_mark op) ∷ value_symbols b
value_symbols (shift v left by _) = value_symbols v ++ mark (shift_mark left) ∷ number by ∷ []

-- ---- Statements

-- step = Word "++" | "++" Word | Word "+=" "1"
pub data StepText : Type 0 where
  then_up : Name → StepText
  up_then : Name → StepText
  up_by_one : Name → StepText

abbrev pub step_symbols : StepText → List Symbol
step_symbols (then_up w) = word w ∷ mark (codes "++") ∷ []
step_symbols (up_then w) = mark (codes "++") ∷ word w ∷ []
step_symbols (up_by_one w) = word w ∷ mark (codes "+=") ∷ number (codes "1") ∷ []

-- { local }
-- local = "const" "int64_t" Word "=" ix ";"     (with the prelude only)
pub data LocalsText (prelude : Bool) : Type 0 where
  no_locals : LocalsText prelude
  and_local : IsTrue prelude → LocalsText prelude → Name → IxText prelude → LocalsText prelude

abbrev pub locals_symbols : {prelude : Bool} → LocalsText prelude → List Symbol
locals_symbols no_locals = []
locals_symbols (and_local _ ls w a) = locals_symbols ls ++ word (codes "const") ∷ word (codes "int64_t") ∷ word w ∷ mark (codes "=") ∷ (ix_symbols a ++ mark (codes ";") ∷ [])

-- "<" or "<="
abbrev pub bound_mark : (strict : Bool) → List ℕ
bound_mark true = codes "<"
bound_mark false = codes "<="

-- "=" | "+=" | "-=" | "*=" | "&=" | "|=" | "^="
abbrev pub assign_mark : Option Op → List ℕ
assign_mark None = codes "="
assign_mark (Some op) = op_mark op ++ codes "="

mutual
  -- { stmt }
  pub data StmtsText (prelude : Bool) : Type 0 where
    no_stmts : StmtsText prelude
    and_stmt : StmtsText prelude → StmtText prelude → StmtsText prelude

  -- stmt = for | if | assign | "{" { local } { stmt } "}"
  pub data StmtText (prelude : Bool) : Type 0 where
    simple : {dangles : Bool} → SimpleText prelude dangles → StmtText prelude
    block : LocalsText prelude → StmtsText prelude → StmtText prelude

  -- A statement or a body is open where it ends in an `if` without `else`. Since no open body stands before an `else`, this belongs to the nearest `if`
  -- before it that has none (6.8.4.1).
  -- for = "for" "(" "int64_t" Word "=" ix ";" Word ( "<" | "<=" ) ix ";" step ")" body
  -- if = "if" "(" cond ")" body [ "else" body ]
  -- assign = Word { dim } ( "=" | "+=" | "-=" | "*=" | "&=" | "|=" | "^=" ) value ";"
  pub data SimpleText (prelude : Bool) : (dangles : Bool) → Type 0 where
    for_loop : {dangles : Bool} → (iterator : Name) → (low : IxText prelude) → (tested : Name) → (strict : Bool) → (high : IxText prelude) → StepText → BodyText prelude dangles → SimpleText prelude dangles
    if_then : {dangles : Bool} → CondText prelude true → BodyText prelude dangles → SimpleText prelude true
    if_else : {dangles : Bool} → CondText prelude true → BodyText prelude false → BodyText prelude dangles → SimpleText prelude dangles
    assign : Name → DimsText prelude → Option Op → ValueText prelude 6 → SimpleText prelude false

  -- body = "{" { stmt } "}" | stmt     (braces are the body's own)
  pub data BodyText (prelude : Bool) : (dangles : Bool) → Type 0 where
    braces : StmtsText prelude → BodyText prelude false
    bare : {dangles : Bool} → SimpleText prelude dangles → BodyText prelude dangles

abbrev mutual
  pub stmts_symbols : {prelude : Bool} → StmtsText prelude → List Symbol
  stmts_symbols no_stmts = []
  stmts_symbols (and_stmt ss s) = stmts_symbols ss ++ stmt_symbols s

  pub stmt_symbols : {prelude : Bool} → StmtText prelude → List Symbol
  stmt_symbols (simple s) = simple_symbols s
  stmt_symbols (block ls ss) = mark (codes "{") ∷ (locals_symbols ls ++ (stmts_symbols ss ++ mark (codes "}") ∷ []))

  pub simple_symbols : {prelude dangles : Bool} → SimpleText prelude dangles → List Symbol
  simple_symbols (for_loop iterator low tested strict high step body) =
      word (codes "for") ∷ mark (codes "(") ∷ word (codes "int64_t") ∷ word iterator ∷ mark (codes "=") ∷ (ix_symbols low ++ mark (codes ";") ∷ word tested ∷ mark (bound_mark strict) ∷ (ix_symbols high ++ mark (codes ";") ∷ (step_symbols step ++ mark (codes ")") ∷ body_symbols body)))
  simple_symbols (if_then c body) = word (codes "if") ∷ mark (codes "(") ∷ (cond_symbols c ++ mark (codes ")") ∷ body_symbols body)
  simple_symbols (if_else c body other) = word (codes "if") ∷ mark (codes "(") ∷ (cond_symbols c ++ mark (codes ")") ∷ (body_symbols body ++ word (codes "else") ∷ body_symbols other))
  simple_symbols (assign array subs op v) = word array ∷ (dims_symbols subs ++ mark (assign_mark op) ∷ (value_symbols v ++ mark (codes ";") ∷ []))

  pub body_symbols : {prelude dangles : Bool} → BodyText prelude dangles → List Symbol
  body_symbols (braces ss) = mark (codes "{") ∷ (stmts_symbols ss ++ mark (codes "}") ∷ [])
  body_symbols (bare s) = simple_symbols s

-- ---- The function

-- param = "int64_t" Word | [ "const" ] "uint64_t" Word dim { dim }
pub data ParamText (prelude : Bool) : Type 0 where
  number_param : Name → ParamText prelude
  array_param : (is_const : Bool) → Name → (first : IxText prelude) → (others : DimsText prelude) → ParamText prelude

abbrev pub const_symbols : Bool → List Symbol
const_symbols true = word (codes "const") ∷ []
const_symbols false = []

abbrev pub param_symbols : {prelude : Bool} → ParamText prelude → List Symbol
param_symbols (number_param w) = word (codes "int64_t") ∷ word w ∷ []
param_symbols (array_param is_const w first others) = const_symbols is_const ++ word (codes "uint64_t") ∷ word w ∷ (dim_symbols first ++ dims_symbols others)

-- param { "," param }
pub data ParamsText (prelude : Bool) : Type 0 where
  param : ParamText prelude → ParamsText prelude
  and_param : ParamsText prelude → ParamText prelude → ParamsText prelude

abbrev pub params_symbols : {prelude : Bool} → ParamsText prelude → List Symbol
params_symbols (param a) = param_symbols a
params_symbols (and_param ps a) = params_symbols ps ++ mark (codes ",") ∷ param_symbols a

-- Word { dim } { "," Word { dim } }
pub data NamesText (prelude : Bool) : Type 0 where
  one_array : Name → DimsText prelude → NamesText prelude
  and_array : NamesText prelude → Name → DimsText prelude → NamesText prelude

abbrev pub names_symbols : {prelude : Bool} → NamesText prelude → List Symbol
names_symbols (one_array w dims) = word w ∷ dims_symbols dims
names_symbols (and_array ns w dims) = names_symbols ns ++ mark (codes ",") ∷ word w ∷ dims_symbols dims

-- { decl }
-- decl = "uint64_t" Word { dim } { "," Word { dim } } ";"
pub data DeclsText (prelude : Bool) : Type 0 where
  no_decls : DeclsText prelude
  and_decl : DeclsText prelude → NamesText prelude → DeclsText prelude

abbrev pub decls_symbols : {prelude : Bool} → DeclsText prelude → List Symbol
decls_symbols no_decls = []
decls_symbols (and_decl ds ns) = decls_symbols ds ++ word (codes "uint64_t") ∷ (names_symbols ns ++ mark (codes ";") ∷ [])

-- function = "void" Word "(" param { "," param } ")" "{" { decl } { stmt } "}"
pub record FunctionText (prelude : Bool) : Type 0 where
  pub name : Name
  pub params : ParamsText prelude
  pub decls : DeclsText prelude
  pub stmts : StmtsText prelude

abbrev pub function_symbols : {prelude : Bool} → FunctionText prelude → List Symbol
function_symbols f = word (codes "void") ∷ word f.name ∷ mark (codes "(") ∷ (params_symbols f.params ++ mark (codes ")") ∷ mark (codes "{") ∷ (decls_symbols f.decls ++ (stmts_symbols f.stmts ++ mark (codes "}") ∷ [])))

-- ---- The text

-- int = [ "-" ] Number
pub record IntText : Type 0 where
  pub negative : Bool
  pub digits : Digits

abbrev pub int_symbols : IntText → List Symbol
int_symbols i = if i.negative then mark (codes "-") ∷ number i.digits ∷ [] else number i.digits ∷ []

-- { pragma }
-- pragma = Hash "pragma" "affc" "param" Word int int LineEnd | Hash "pragma" "affc" "context" cond LineEnd
pub data PragmasText : Type 0 where
  no_pragmas : PragmasText
  and_range : PragmasText → Name → (low high : IntText) → LineText → PragmasText
  and_context : PragmasText → CondText true false → LineText → PragmasText

abbrev pub pragma_symbols : Name → List Symbol
pragma_symbols kind = record { kind = Hash; bytes = codes "#" } ∷ word (codes "pragma") ∷ word (codes "affc") ∷ word kind ∷ []

abbrev pub pragmas_symbols : PragmasText → List Symbol
pragmas_symbols no_pragmas = []
pragmas_symbols (and_range ps w low high line) = pragmas_symbols ps ++ (pragma_symbols (codes "param") ++ word w ∷ (int_symbols low ++ (int_symbols high ++ line_symbols line)))
pragmas_symbols (and_context ps c line) = pragmas_symbols ps ++ (pragma_symbols (codes "context") ++ (cond_symbols c ++ line_symbols line))

-- whether a Word stands directly before a "(", which in conditions is a call
abbrev pub has_call : List Symbol → Bool
has_call (f ∷ open_bracket ∷ others) = (is_word_kind f.kind && is_mark_kind open_bracket.kind && same open_bracket.bytes (codes "(")) || has_call (open_bracket ∷ others)
has_call _ = false

abbrev pub context_calls : PragmasText → Bool
context_calls no_pragmas = false
context_calls (and_range ps w low high line) = context_calls ps
context_calls (and_context ps c line) = context_calls ps || has_call (cond_symbols c)

-- include = Hash "include" Header LineEnd     (the Header is <stdint.h>)
abbrev pub include_symbols : LineText → List Symbol
include_symbols line = record { kind = Hash; bytes = codes "#" } ∷ word (codes "include") ∷ record { kind = Header; bytes = codes "<stdint.h>" } ∷ line_symbols line

-- [ Prelude ]
abbrev pub prelude_symbols : Bool → List Symbol
prelude_symbols true = record { kind = Prelude; bytes = prelude } ∷ []
prelude_symbols false = []

-- text = include { pragma } [ Prelude ] function
pub record Text : Type 0 where
  pub line : LineText
  pub pragmas : PragmasText
  pub has_prelude : Bool
  pub calls_allowed : IsTrue (has_prelude || not (context_calls pragmas))
  pub function : FunctionText has_prelude

abbrev pub text_symbols : Text → List Symbol
text_symbols c = include_symbols c.line ++ (pragmas_symbols c.pragmas ++ (prelude_symbols c.has_prelude ++ function_symbols c.function))

-- ---- Texts that go on, and texts that stop

-- the symbols begin a text of the grammar
abbrev pub Begins : List Symbol → Type 0
Begins symbols = (c : Text) × (rest : List Symbol) × (text_symbols c ≡ symbols ++ rest)

-- with the next symbol, or with the end where there is none, the symbols before begin no text
abbrev pub Refuses : List Symbol → List Symbol → Type 0
Refuses before [] = (c : Text) → text_symbols c ≡ before → ⊥
Refuses before (x ∷ others) = (c : Text) (tail : List Symbol) → text_symbols c ≡ before ++ x ∷ tail → ⊥

-- The first place at which no text of the grammar goes on as the symbols do; `rest` are those from it on.
pub record StopsAt (symbols rest : List Symbol) : Type 0 where
  pub before : List Symbol
  pub split : symbols ≡ before ++ rest
  pub begins : Begins before
  pub refuses : Refuses before rest

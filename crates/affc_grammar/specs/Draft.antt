-- What a text says before its names are looked up: a tree with the names as they are written, each with the number of its token. Such a number
-- (`at`) counts the text's tokens from 0. A chain of operators of one level groups from the left.
use Rattle.std.specs.Prelude.{ℕ, ◌+◌, Bool, true, false, List, [], ◌∷◌, ◌++◌, length, Option, ℤ, pos, neg_ℤ, if◌then◌else◌}
use Rattle.affc_lex.specs.Bytes.{decimal}
use Rattle.affc_lex.specs.Pieces.{leading_digits}
use Rattle.affc_ast.specs.declared.tree.Op.{Op}
use Rattle.affc_ast.specs.declared.tree.Rel.{Rel}
use Rattle.affc_ast.specs.declared.tree.Rel.TheVariants.{Less, LessEqual}
use Rattle.affc_ast.specs.declared.tree.Role.{Role}
use Rattle.affc_ast.specs.declared.tree.Role.TheVariants.{Input, Output, Temp}
use Rattle.affc_grammar.specs.Grammar as g
use Rattle.affc_grammar.specs.Grammar.{Name, Choice, Rounding, IxText, TermText, FactorText, AtomText, DimsText, CondText, AllText, PrimText, ValueText, StepText, LocalsText, StmtsText, StmtText, SimpleText, BodyText, ParamText, ParamsText, NamesText, DeclsText, FunctionText, IntText, PragmasText, Text, ix_symbols, term_symbols, dims_symbols, dim_symbols, cond_symbols, all_symbols, value_symbols, step_symbols, locals_symbols, stmts_symbols, body_symbols, const_symbols, params_symbols, names_symbols, decls_symbols, pragmas_symbols, int_symbols, include_symbols, prelude_symbols}

pub data IxDraft : Type 0 where
  literal : (at : ℕ) → ℕ → IxDraft
  name : (at : ℕ) → Name → IxDraft
  negated : (at : ℕ) → IxDraft → IxDraft
  sum : IxDraft → IxDraft → IxDraft
  difference : IxDraft → IxDraft → IxDraft
  -- `at` is the number of the "*"
  product : (at : ℕ) → IxDraft → IxDraft → IxDraft
  -- in parentheses, which leave no mark in the tree
  grouped : (at : ℕ) → IxDraft → IxDraft
  chosen : (at : ℕ) → Choice → IxDraft → IxDraft → IxDraft
  divided : (at : ℕ) → Rounding → IxDraft → (by_at : ℕ) → (by : ℕ) → IxDraft

pub record CompareDraft : Type 0 where
  pub rel : Rel
  pub left : IxDraft
  pub right : IxDraft

mutual
  pub data CondsDraft : Type 0 where
    no_conds : CondsDraft
    and_cond : CondsDraft → CondDraft → CondsDraft

  -- joined by "&&" or by "||" are at least two, none of which is joined by the same
  pub data CondDraft : Type 0 where
    comparison : CompareDraft → CondDraft
    -- `by_at` is the number of the Number
    divisible : IxDraft → (by_at : ℕ) → (by : ℕ) → (so : Bool) → CondDraft
    all_of : CondsDraft → CondDraft
    any_of : CondsDraft → CondDraft

pub data ValueDraft : Type 0 where
  load : (at : ℕ) → Name → List IxDraft → ValueDraft
  constant : ℕ → ValueDraft
  cast : IxDraft → ValueDraft
  complement : ValueDraft → ValueDraft
  binary : Op → ValueDraft → ValueDraft → ValueDraft
  shift : (left : Bool) → ValueDraft → ℕ → ValueDraft

pub record LocalDraft : Type 0 where
  pub at : ℕ
  pub name : Name
  pub value : IxDraft

-- a Word, and the number of its token
pub record WordDraft : Type 0 where
  pub at : ℕ
  pub name : Name

pub record HeadDraft : Type 0 where
  -- the word `for`
  pub at : ℕ
  pub iterator : WordDraft
  pub low : IxDraft
  pub tested : WordDraft
  pub rel : Rel
  pub high : IxDraft
  pub stepped : WordDraft

mutual
  pub data StmtsDraft : Type 0 where
    no_stmts : StmtsDraft
    and_stmt : StmtsDraft → StmtDraft → StmtsDraft

  pub data StmtDraft : Type 0 where
    for_loop : HeadDraft → StmtsDraft → StmtDraft
    -- `other` is empty where no `else` follows
    if_cond : (at : ℕ) → CondDraft → (body other : StmtsDraft) → StmtDraft
    assign : WordDraft → List IxDraft → Option Op → ValueDraft → StmtDraft
    block : List LocalDraft → StmtsDraft → StmtDraft

pub record DeclDraft : Type 0 where
  pub word : WordDraft
  pub role : Role
  pub extents : List IxDraft

pub data ParamDraft : Type 0 where
  number_param : WordDraft → ParamDraft
  array_param : DeclDraft → ParamDraft

pub data PragmaDraft : Type 0 where
  -- `low_at` is the number of the first token of the first bound
  range : WordDraft → (low_at : ℕ) → (low high : ℤ) → PragmaDraft
  -- `at` is the number of the word `context`
  context : (at : ℕ) → List CompareDraft → PragmaDraft

pub record TextDraft : Type 0 where
  pub pragmas : List PragmaDraft
  pub has_prelude : Bool
  pub function : WordDraft
  pub params : List ParamDraft
  pub temps : List DeclDraft
  pub body : StmtsDraft

-- ---- From the grammar. The first argument is the number of the first token.

abbrev mutual
  pub ix_draft : {prelude : Bool} → ℕ → IxText prelude → IxDraft
  ix_draft at (g.term a) = term_draft at a
  ix_draft at (g.plus a b) = sum (ix_draft at a) (term_draft (at + length (ix_symbols a) + 1) b)
  ix_draft at (g.minus a b) = difference (ix_draft at a) (term_draft (at + length (ix_symbols a) + 1) b)

  pub term_draft : {prelude : Bool} → ℕ → TermText prelude → IxDraft
  term_draft at (g.factor a) = factor_draft at a
  term_draft at (g.times a b) = product (at + length (term_symbols a)) (term_draft at a) (factor_draft (at + length (term_symbols a) + 1) b)

  pub factor_draft : {prelude : Bool} → ℕ → FactorText prelude → IxDraft
  factor_draft at (g.atom a) = atom_draft at a
  factor_draft at (g.negated a) = negated at (atom_draft (at + 1) a)

  pub atom_draft : {prelude : Bool} → ℕ → AtomText prelude → IxDraft
  atom_draft at (g.literal digits) = literal at (decimal digits)
  atom_draft at (g.name w) = name at w
  atom_draft at (g.grouped a) = grouped at (ix_draft (at + 1) a)
  atom_draft at (g.chosen _ f a b) = chosen at f (ix_draft (at + 2) a) (ix_draft (at + 2 + length (ix_symbols a) + 1) b)
  atom_draft at (g.divided _ f a by _) = divided at f (ix_draft (at + 2) a) (at + 2 + length (ix_symbols a) + 1) (decimal by)

abbrev pub dims_draft : {prelude : Bool} → ℕ → DimsText prelude → List IxDraft
dims_draft at g.no_dims = []
dims_draft at (g.and_dim ds a) = dims_draft at ds ++ ix_draft (at + length (dims_symbols ds) + 1) a ∷ []

-- ---- Conditions: what is joined in parentheses becomes part of a list that is joined by the same

abbrev pub and_conds : CondsDraft → CondsDraft → CondsDraft
and_conds cs no_conds = cs
and_conds cs (and_cond ds d) = and_cond (and_conds cs ds) d

abbrev pub alone : CondDraft → CondsDraft
alone c = and_cond no_conds c

-- what is joined by "&&", and by "||"
abbrev pub conjuncts : CondDraft → CondsDraft
conjuncts (all_of cs) = cs
conjuncts c = alone c

abbrev pub disjuncts : CondDraft → CondsDraft
disjuncts (any_of cs) = cs
disjuncts c = alone c

abbrev mutual
  pub cond_draft : {prelude wide : Bool} → ℕ → CondText prelude wide → CondDraft
  cond_draft at (g.all_of a) = all_draft at a
  cond_draft at (g.or_all _ c a) = any_of (and_conds (disjuncts (cond_draft at c)) (disjuncts (all_draft (at + length (cond_symbols c) + 1) a)))

  pub all_draft : {prelude wide : Bool} → ℕ → AllText prelude wide → CondDraft
  all_draft at (g.prim q) = prim_draft at q
  all_draft at (g.and_prim a q) = all_of (and_conds (conjuncts (all_draft at a)) (conjuncts (prim_draft (at + length (all_symbols a) + 1) q)))

  pub prim_draft : {prelude wide : Bool} → ℕ → PrimText prelude wide → CondDraft
  prim_draft at (g.enclosed c) = cond_draft (at + 1) c
  prim_draft at (g.compared a rel _ b) = comparison (record { rel = rel; left = ix_draft at a; right = ix_draft (at + length (ix_symbols a) + 1) b })
  prim_draft at (g.divisible _ t by _ so) = divisible (term_draft at t) (at + length (term_symbols t) + 1) (decimal by) so

abbrev pub comparison_in : CondDraft → List CompareDraft
comparison_in (comparison c) = c ∷ []
comparison_in _ = []

abbrev pub comparisons_of : CondsDraft → List CompareDraft
comparisons_of no_conds = []
comparisons_of (and_cond cs c) = comparisons_of cs ++ comparison_in c

-- the comparisons of a `context` line, which are joined by "&&"
abbrev pub comparisons_in : CondDraft → List CompareDraft
comparisons_in c = comparisons_of (conjuncts c)

abbrev pub value_draft : {prelude : Bool} {n : ℕ} → ℕ → ValueText prelude n → ValueDraft
value_draft at (g.complement v) = complement (value_draft (at + 1) v)
value_draft at (g.load array subs) = load at array (dims_draft (at + 1) subs)
value_draft at (g.constant bytes) = constant (decimal (leading_digits bytes))
value_draft at (g.parens v) = value_draft (at + 1) v
value_draft at (g.cast a) = cast (ix_draft (at + 4) a)
value_draft at (g.operand v) = value_draft at v
value_draft at (g.binary a op _ b) = binary op (value_draft at a) (value_draft (at + length (value_symbols a) + 1) b)
value_draft at (g.shift v left by _) = shift left (value_draft at v) (decimal by)

abbrev pub word_draft : ℕ → Name → WordDraft
word_draft at w = record { at = at; name = w }

abbrev pub step_draft : ℕ → StepText → WordDraft
step_draft at (g.then_up w) = word_draft at w
step_draft at (g.up_then w) = word_draft (at + 1) w
step_draft at (g.up_by_one w) = word_draft at w

abbrev pub bound_rel : (strict : Bool) → Rel
bound_rel true = Less
bound_rel false = LessEqual

abbrev pub locals_draft : {prelude : Bool} → ℕ → LocalsText prelude → List LocalDraft
locals_draft at g.no_locals = []
locals_draft at (g.and_local _ ls w a) =
    let next = at + length (locals_symbols ls) in
    locals_draft at ls ++ record { at = next + 2; name = w; value = ix_draft (next + 4) a } ∷ []

-- for ( int64_t iterator = low ; tested < high ; step )
abbrev pub head_draft : {prelude : Bool} → ℕ → Name → IxText prelude → Name → Bool → IxText prelude → StepText → HeadDraft
head_draft at iterator low tested strict high step =
    let tested_at = at + 5 + length (ix_symbols low) + 1 in
    record {
      at = at;
      iterator = word_draft (at + 3) iterator;
      low = ix_draft (at + 5) low;
      tested = word_draft tested_at tested;
      rel = bound_rel strict;
      high = ix_draft (tested_at + 2) high;
      stepped = step_draft (tested_at + 2 + length (ix_symbols high) + 1) step;
    }

-- the tokens before the body
abbrev pub head_length : {prelude : Bool} → IxText prelude → IxText prelude → StepText → ℕ
head_length low high step = 5 + length (ix_symbols low) + 3 + length (ix_symbols high) + 1 + length (step_symbols step) + 1

abbrev mutual
  pub stmts_draft : {prelude : Bool} → ℕ → StmtsText prelude → StmtsDraft
  stmts_draft at g.no_stmts = no_stmts
  stmts_draft at (g.and_stmt ss s) = and_stmt (stmts_draft at ss) (stmt_draft (at + length (stmts_symbols ss)) s)

  pub stmt_draft : {prelude : Bool} → ℕ → StmtText prelude → StmtDraft
  stmt_draft at (g.simple s) = simple_draft at s
  stmt_draft at (g.block ls ss) = block (locals_draft (at + 1) ls) (stmts_draft (at + 1 + length (locals_symbols ls)) ss)

  pub simple_draft : {prelude dangles : Bool} → ℕ → SimpleText prelude dangles → StmtDraft
  simple_draft at (g.for_loop iterator low tested strict high step body) = for_loop (head_draft at iterator low tested strict high step) (body_draft (at + head_length low high step) body)
  simple_draft at (g.if_then c body) = if_cond at (cond_draft (at + 2) c) (body_draft (at + 2 + length (cond_symbols c) + 1) body) no_stmts
  simple_draft at (g.if_else c body other) =
      let body_at = at + 2 + length (cond_symbols c) + 1 in
      if_cond at (cond_draft (at + 2) c) (body_draft body_at body) (body_draft (body_at + length (body_symbols body) + 1) other)
  simple_draft at (g.assign array subs op v) = assign (word_draft at array) (dims_draft (at + 1) subs) op (value_draft (at + 1 + length (dims_symbols subs) + 1) v)

  pub body_draft : {prelude dangles : Bool} → ℕ → BodyText prelude dangles → StmtsDraft
  body_draft at (g.braces ss) = stmts_draft (at + 1) ss
  body_draft at (g.bare s) = and_stmt no_stmts (simple_draft at s)

abbrev pub array_role : (is_const : Bool) → Role
array_role true = Input
array_role false = Output

abbrev pub param_draft : {prelude : Bool} → ℕ → ParamText prelude → ParamDraft
param_draft at (g.number_param w) = number_param (word_draft (at + 1) w)
param_draft at (g.array_param is_const w first others) =
    let name_at = at + length (const_symbols is_const) + 1 in
    array_param (record { word = word_draft name_at w; role = array_role is_const; extents = ix_draft (name_at + 2) first ∷ dims_draft (name_at + 1 + length (dim_symbols first)) others })

abbrev pub params_draft : {prelude : Bool} → ℕ → ParamsText prelude → List ParamDraft
params_draft at (g.param a) = param_draft at a ∷ []
params_draft at (g.and_param ps a) = params_draft at ps ++ param_draft (at + length (params_symbols ps) + 1) a ∷ []

abbrev pub temp_draft : {prelude : Bool} → ℕ → Name → DimsText prelude → DeclDraft
temp_draft at w dims = record { word = word_draft at w; role = Temp; extents = dims_draft (at + 1) dims }

abbrev pub names_draft : {prelude : Bool} → ℕ → NamesText prelude → List DeclDraft
names_draft at (g.one_array w dims) = temp_draft at w dims ∷ []
names_draft at (g.and_array ns w dims) = names_draft at ns ++ temp_draft (at + length (names_symbols ns) + 1) w dims ∷ []

abbrev pub decls_draft : {prelude : Bool} → ℕ → DeclsText prelude → List DeclDraft
decls_draft at g.no_decls = []
decls_draft at (g.and_decl ds ns) = decls_draft at ds ++ names_draft (at + length (decls_symbols ds) + 1) ns

abbrev pub int_value : IntText → ℤ
int_value i = if i.negative then neg_ℤ (pos (decimal i.digits)) else pos (decimal i.digits)

abbrev pub pragmas_draft : ℕ → PragmasText → List PragmaDraft
pragmas_draft at g.no_pragmas = []
pragmas_draft at (g.and_range ps w low high line) =
    let next = at + length (pragmas_symbols ps) in
    pragmas_draft at ps ++ range (word_draft (next + 4) w) (next + 5) (int_value low) (int_value high) ∷ []
pragmas_draft at (g.and_context ps cs line) =
    let next = at + length (pragmas_symbols ps) in
    pragmas_draft at ps ++ context (next + 3) (comparisons_in (cond_draft (next + 4) cs)) ∷ []

abbrev pub text_draft : Text → TextDraft
text_draft c =
    let start = length (include_symbols c.line) in
    let at = start + length (pragmas_symbols c.pragmas) + length (prelude_symbols c.has_prelude) in
    let f = c.function in
    let body_at = at + 3 + length (params_symbols f.params) + 2 in
    record {
      pragmas = pragmas_draft start c.pragmas;
      has_prelude = c.has_prelude;
      function = word_draft (at + 1) f.name;
      params = params_draft (at + 3) f.params;
      temps = decls_draft body_at f.decls;
      body = stmts_draft (body_at + length (decls_symbols f.decls)) f.stmts;
    }

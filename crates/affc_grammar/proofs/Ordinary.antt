-- Of the tokens of a text of the grammar only one in its first line is a Header, and only one behind the pragmas is the prelude.
use Rattle.std.proofs.Common.{◌≡◌, ℕ, Bool, true, false, List, [], ◌∷◌, ◌++◌, codes, refl, ◌∙◌}
use Rattle.std.specs.Prelude.{if◌then◌else◌}
use Rattle.std.specs.List.{list_all}
use Rattle.std.proofs.lemmas.Bool.{and_parts, and_from}
use Rattle.std.proofs.lemmas.List.Folds.{list_all-append}
use Rattle.affc_lex.specs.declared.token.Kind.{Kind}
use Rattle.affc_lex.specs.declared.token.Kind.TheVariants.{Header, Prelude}
use Rattle.affc_grammar.specs.Grammar as g
use Rattle.affc_grammar.specs.Grammar.{Symbol, IxText, TermText, FactorText, AtomText, DimsText, CondText, AllText, PrimText, ValueText, StepText, LocalsText, StmtsText, StmtText, SimpleText, BodyText, ParamText, ParamsText, NamesText, DeclsText, FunctionText, IntText, PragmasText, LineText, ix_symbols, term_symbols, factor_symbols, atom_symbols, dim_symbols, dims_symbols, cond_symbols, all_symbols, prim_symbols, value_symbols, step_symbols, locals_symbols, stmts_symbols, stmt_symbols, simple_symbols, body_symbols, const_symbols, param_symbols, params_symbols, names_symbols, decls_symbols, function_symbols, line_symbols, int_symbols, pragmas_symbols}

abbrev pub is_ordinary : Kind → Bool
is_ordinary Header = false
is_ordinary Prelude = false
is_ordinary _ = true

-- neither a Header nor the prelude
abbrev pub AreOrdinary : List Symbol → Type 0
AreOrdinary ss = list_all (λ s. is_ordinary s.kind) ss ≡ true

pub all_on : (test : Symbol → Bool) (xs ys : List Symbol) → list_all test xs ≡ true → list_all test ys ≡ true → list_all test (xs ++ ys) ≡ true
all_on test xs ys h k = list_all-append test xs ys ∙ and_from _ _ h k

-- what every ordinary token is
pub all_of : (test : Symbol → Bool) → ((s : Symbol) → is_ordinary s.kind ≡ true → test s ≡ true) → (ss : List Symbol) → AreOrdinary ss → list_all test ss ≡ true
all_of test is [] h = refl
all_of test is (s ∷ ss) h =
    let p = and_parts (is_ordinary s.kind) (list_all (λ x. is_ordinary x.kind) ss) h in
    and_from _ _ (is s p.0) (all_of test is ss p.1)

on : (xs ys : List Symbol) → AreOrdinary xs → AreOrdinary ys → AreOrdinary (xs ++ ys)
on = all_on (λ s. is_ordinary s.kind)

mutual
  pub ix_ordinary : {prelude : Bool} (a : IxText prelude) → AreOrdinary (ix_symbols a)
  ix_ordinary (g.term a) = term_ordinary a
  ix_ordinary (g.plus a b) = on (ix_symbols a) _ (ix_ordinary a) (term_ordinary b)
  ix_ordinary (g.minus a b) = on (ix_symbols a) _ (ix_ordinary a) (term_ordinary b)

  term_ordinary : {prelude : Bool} (a : TermText prelude) → AreOrdinary (term_symbols a)
  term_ordinary (g.factor a) = factor_ordinary a
  term_ordinary (g.times a b) = on (term_symbols a) _ (term_ordinary a) (factor_ordinary b)

  factor_ordinary : {prelude : Bool} (a : FactorText prelude) → AreOrdinary (factor_symbols a)
  factor_ordinary (g.atom a) = atom_ordinary a
  factor_ordinary (g.negated a) = atom_ordinary a

  atom_ordinary : {prelude : Bool} (a : AtomText prelude) → AreOrdinary (atom_symbols a)
  atom_ordinary (g.literal digits) = refl
  atom_ordinary (g.name w) = refl
  atom_ordinary (g.grouped a) = on (ix_symbols a) _ (ix_ordinary a) refl
  atom_ordinary (g.chosen _ f a b) = on (ix_symbols a) _ (ix_ordinary a) (on (ix_symbols b) _ (ix_ordinary b) refl)
  atom_ordinary (g.divided _ f a by _) = on (ix_symbols a) _ (ix_ordinary a) refl

dims_ordinary : {prelude : Bool} (ds : DimsText prelude) → AreOrdinary (dims_symbols ds)
dims_ordinary g.no_dims = refl
dims_ordinary (g.and_dim ds a) = on (dims_symbols ds) (dim_symbols a) (dims_ordinary ds) (on (ix_symbols a) _ (ix_ordinary a) refl)

mutual
  cond_ordinary : {prelude wide : Bool} (c : CondText prelude wide) → AreOrdinary (cond_symbols c)
  cond_ordinary (g.all_of a) = all_ordinary a
  cond_ordinary (g.or_all _ c a) = on (cond_symbols c) _ (cond_ordinary c) (all_ordinary a)

  all_ordinary : {prelude wide : Bool} (a : AllText prelude wide) → AreOrdinary (all_symbols a)
  all_ordinary (g.prim q) = prim_ordinary q
  all_ordinary (g.and_prim a q) = on (all_symbols a) _ (all_ordinary a) (prim_ordinary q)

  prim_ordinary : {prelude wide : Bool} (q : PrimText prelude wide) → AreOrdinary (prim_symbols q)
  prim_ordinary (g.enclosed c) = on (cond_symbols c) _ (cond_ordinary c) refl
  prim_ordinary (g.compared a rel _ b) = on (ix_symbols a) _ (ix_ordinary a) (ix_ordinary b)
  prim_ordinary (g.divisible _ t by _ so) = on (term_symbols t) _ (term_ordinary t) refl

value_ordinary : {prelude : Bool} {n : ℕ} (v : ValueText prelude n) → AreOrdinary (value_symbols v)
value_ordinary (g.complement v) = value_ordinary v
value_ordinary (g.load array subs) = dims_ordinary subs
value_ordinary (g.constant bytes) = refl
value_ordinary (g.parens v) = on (value_symbols v) _ (value_ordinary v) refl
value_ordinary (g.cast a) = on (ix_symbols a) _ (ix_ordinary a) refl
value_ordinary (g.operand v) = value_ordinary v
value_ordinary (g.binary a op _ b) = on (value_symbols a) _ (value_ordinary a) (value_ordinary b)
value_ordinary (g.shift v left by _) = on (value_symbols v) _ (value_ordinary v) refl

step_ordinary : (s : StepText) → AreOrdinary (step_symbols s)
step_ordinary (g.then_up w) = refl
step_ordinary (g.up_then w) = refl
step_ordinary (g.up_by_one w) = refl

locals_ordinary : {prelude : Bool} (ls : LocalsText prelude) → AreOrdinary (locals_symbols ls)
locals_ordinary g.no_locals = refl
locals_ordinary (g.and_local _ ls w a) = on (locals_symbols ls) _ (locals_ordinary ls) (on (ix_symbols a) _ (ix_ordinary a) refl)

mutual
  stmts_ordinary : {prelude : Bool} (ss : StmtsText prelude) → AreOrdinary (stmts_symbols ss)
  stmts_ordinary g.no_stmts = refl
  stmts_ordinary (g.and_stmt ss s) = on (stmts_symbols ss) _ (stmts_ordinary ss) (stmt_ordinary s)

  stmt_ordinary : {prelude : Bool} (s : StmtText prelude) → AreOrdinary (stmt_symbols s)
  stmt_ordinary (g.simple s) = simple_ordinary s
  stmt_ordinary (g.block ls ss) = on (locals_symbols ls) _ (locals_ordinary ls) (on (stmts_symbols ss) _ (stmts_ordinary ss) refl)

  simple_ordinary : {prelude dangles : Bool} (s : SimpleText prelude dangles) → AreOrdinary (simple_symbols s)
  simple_ordinary (g.for_loop iterator low tested strict high step body) =
      on (ix_symbols low) _ (ix_ordinary low) (on (ix_symbols high) _ (ix_ordinary high) (on (step_symbols step) _ (step_ordinary step) (body_ordinary body)))
  simple_ordinary (g.if_then c body) = on (cond_symbols c) _ (cond_ordinary c) (body_ordinary body)
  simple_ordinary (g.if_else c body other) = on (cond_symbols c) _ (cond_ordinary c) (on (body_symbols body) _ (body_ordinary body) (body_ordinary other))
  simple_ordinary (g.assign array subs op v) = on (dims_symbols subs) _ (dims_ordinary subs) (on (value_symbols v) _ (value_ordinary v) refl)

  body_ordinary : {prelude dangles : Bool} (b : BodyText prelude dangles) → AreOrdinary (body_symbols b)
  body_ordinary (g.braces ss) = on (stmts_symbols ss) _ (stmts_ordinary ss) refl
  body_ordinary (g.bare s) = simple_ordinary s

const_ordinary : (is_const : Bool) → AreOrdinary (const_symbols is_const)
const_ordinary true = refl
const_ordinary false = refl

param_ordinary : {prelude : Bool} (q : ParamText prelude) → AreOrdinary (param_symbols q)
param_ordinary (g.number_param w) = refl
param_ordinary (g.array_param is_const w first others) =
    on (const_symbols is_const) _ (const_ordinary is_const) (on (dim_symbols first) (dims_symbols others) (on (ix_symbols first) _ (ix_ordinary first) refl) (dims_ordinary others))

params_ordinary : {prelude : Bool} (ps : ParamsText prelude) → AreOrdinary (params_symbols ps)
params_ordinary (g.param a) = param_ordinary a
params_ordinary (g.and_param ps a) = on (params_symbols ps) _ (params_ordinary ps) (param_ordinary a)

names_ordinary : {prelude : Bool} (ns : NamesText prelude) → AreOrdinary (names_symbols ns)
names_ordinary (g.one_array w dims) = dims_ordinary dims
names_ordinary (g.and_array ns w dims) = on (names_symbols ns) _ (names_ordinary ns) (dims_ordinary dims)

decls_ordinary : {prelude : Bool} (ds : DeclsText prelude) → AreOrdinary (decls_symbols ds)
decls_ordinary g.no_decls = refl
decls_ordinary (g.and_decl ds ns) = on (decls_symbols ds) _ (decls_ordinary ds) (on (names_symbols ns) _ (names_ordinary ns) refl)

pub function_ordinary : {prelude : Bool} (f : FunctionText prelude) → AreOrdinary (function_symbols f)
function_ordinary f = on (params_symbols f.params) _ (params_ordinary f.params) (on (decls_symbols f.decls) _ (decls_ordinary f.decls) (on (stmts_symbols f.stmts) _ (stmts_ordinary f.stmts) refl))

pub line_ordinary : (l : LineText) → AreOrdinary (line_symbols l)
line_ordinary g.line_feed = refl
line_ordinary g.text_end = refl

int_ordinary : (i : IntText) → AreOrdinary (int_symbols i)
int_ordinary i = by i.negative
  where
    by : (b : Bool) → AreOrdinary (if b then g.mark (codes "-") ∷ g.number i.digits ∷ [] else g.number i.digits ∷ [])
    by true = refl
    by false = refl

pub pragmas_ordinary : (ps : PragmasText) → AreOrdinary (pragmas_symbols ps)
pragmas_ordinary g.no_pragmas = refl
pragmas_ordinary (g.and_range ps w low high line) = on (pragmas_symbols ps) _ (pragmas_ordinary ps) (on (int_symbols low) _ (int_ordinary low) (on (int_symbols high) _ (int_ordinary high) (line_ordinary line)))
pragmas_ordinary (g.and_context ps c line) = on (pragmas_symbols ps) _ (pragmas_ordinary ps) (on (cond_symbols c) _ (cond_ordinary c) (line_ordinary line))

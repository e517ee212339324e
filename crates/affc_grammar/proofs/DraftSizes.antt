-- How large a draft is, by its nodes and declarations: no larger than the number of its tokens.
use Rattle.std.proofs.Common.{◌≡◌, ℕ, ◌+◌, ◌≤◌, Bool, List, [], ◌∷◌, ◌++◌, length, codes, arith, length-append}
use Rattle.std.specs.Prelude.{sum_by}
use Rattle.std.proofs.lemmas.List.Sums.{sum_by-cons, sum_by-append}
use Rattle.affc_grammar.specs.Grammar as g
use Rattle.affc_grammar.specs.Grammar.{Symbol, IxText, TermText, FactorText, AtomText, DimsText, CondText, AllText, PrimText, ValueText, StepText, LocalsText, StmtsText, StmtText, SimpleText, BodyText, ParamText, ParamsText, NamesText, DeclsText, FunctionText, PragmasText, Text, ix_symbols, term_symbols, factor_symbols, atom_symbols, dim_symbols, dims_symbols, cond_symbols, all_symbols, prim_symbols, value_symbols, step_symbols, locals_symbols, stmts_symbols, stmt_symbols, simple_symbols, body_symbols, const_symbols, param_symbols, params_symbols, names_symbols, decls_symbols, int_symbols, line_symbols, pragmas_symbols, include_symbols, prelude_symbols, function_symbols, text_symbols}
use Rattle.affc_grammar.specs.Draft as d
use Rattle.affc_grammar.specs.Draft.{IxDraft, CompareDraft, CondsDraft, CondDraft, ValueDraft, LocalDraft, StmtsDraft, StmtDraft, DeclDraft, ParamDraft, PragmaDraft, TextDraft, ix_draft, term_draft, factor_draft, atom_draft, dims_draft, and_conds, conjuncts, disjuncts, cond_draft, all_draft, prim_draft, comparison_in, comparisons_of, comparisons_in, value_draft, locals_draft, stmts_draft, stmt_draft, simple_draft, body_draft, param_draft, params_draft, names_draft, decls_draft, pragmas_draft, text_draft}

-- ---- Sizes: the nodes of the tree, and one for each array

abbrev pub ix_size : IxDraft → ℕ
ix_size (d.literal at n) = 1
ix_size (d.name at w) = 1
ix_size (d.negated at a) = 1 + ix_size a
ix_size (d.sum a b) = 1 + ix_size a + ix_size b
ix_size (d.difference a b) = 1 + ix_size a + ix_size b
ix_size (d.product at a b) = 1 + ix_size a + ix_size b
ix_size (d.grouped at a) = ix_size a
ix_size (d.chosen at f a b) = 1 + ix_size a + ix_size b
ix_size (d.divided at f a by_at by) = 1 + ix_size a

abbrev pub compare_size : CompareDraft → ℕ
compare_size c = 1 + ix_size c.left + ix_size c.right

abbrev mutual
  pub conds_size : CondsDraft → ℕ
  conds_size d.no_conds = 0
  conds_size (d.and_cond cs c) = conds_size cs + cond_size c

  pub cond_size : CondDraft → ℕ
  cond_size (d.comparison c) = compare_size c
  cond_size (d.divisible a by_at by so) = 1 + ix_size a
  cond_size (d.all_of cs) = 1 + conds_size cs
  cond_size (d.any_of cs) = 1 + conds_size cs

abbrev pub value_size : ValueDraft → ℕ
value_size (d.load at w subs) = 1 + sum_by ix_size subs
value_size (d.constant n) = 1
value_size (d.cast a) = 1 + ix_size a
value_size (d.complement v) = 1 + value_size v
value_size (d.binary op v w) = 1 + value_size v + value_size w
value_size (d.shift left v by) = 1 + value_size v

abbrev pub local_size : LocalDraft → ℕ
local_size l = ix_size l.value

abbrev mutual
  pub stmts_size : StmtsDraft → ℕ
  stmts_size d.no_stmts = 0
  stmts_size (d.and_stmt ss s) = stmts_size ss + stmt_size s

  pub stmt_size : StmtDraft → ℕ
  stmt_size (d.for_loop h body) = 1 + ix_size h.low + ix_size h.high + stmts_size body
  stmt_size (d.if_cond at c body other) = 1 + cond_size c + stmts_size body + stmts_size other
  stmt_size (d.assign w subs op v) = 1 + sum_by ix_size subs + value_size v
  stmt_size (d.block ls body) = 1 + sum_by local_size ls + stmts_size body

abbrev pub decl_size : DeclDraft → ℕ
decl_size c = 1 + sum_by ix_size c.extents

abbrev pub param_size : ParamDraft → ℕ
param_size (d.number_param w) = 0
param_size (d.array_param c) = decl_size c

abbrev pub pragma_size : PragmaDraft → ℕ
pragma_size (d.range w low_at low high) = 0
pragma_size (d.context at cs) = sum_by compare_size cs

abbrev pub text_size : TextDraft → ℕ
text_size c = sum_by pragma_size c.pragmas + sum_by param_size c.params + sum_by decl_size c.temps + stmts_size c.body

-- ---- Each of them has a token of its own

-- one more at the end of a list
last_more : {A : Type 0} (f : A → ℕ) (xs : List A) (x : A) → sum_by f (xs ++ x ∷ []) ≡ sum_by f xs + f x
last_more f xs x = omega (arith, sum_by-append f xs (x ∷ []), sum_by-cons f x [])

alone : {A : Type 0} (f : A → ℕ) (x : A) → sum_by f (x ∷ []) ≡ f x
alone f x = omega (arith, sum_by-cons f x [])

mutual
  ix_fits : {prelude : Bool} (at : ℕ) (a : IxText prelude) → ix_size (ix_draft at a) ≤ length (ix_symbols a)
  ix_fits at (g.term a) = term_fits at a
  ix_fits at (g.plus a b) = let p = ix_fits at a in let q = term_fits (at + length (ix_symbols a) + 1) b in omega (arith, length-append {A = Symbol})
  ix_fits at (g.minus a b) = let p = ix_fits at a in let q = term_fits (at + length (ix_symbols a) + 1) b in omega (arith, length-append {A = Symbol})

  term_fits : {prelude : Bool} (at : ℕ) (a : TermText prelude) → ix_size (term_draft at a) ≤ length (term_symbols a)
  term_fits at (g.factor a) = factor_fits at a
  term_fits at (g.times a b) = let p = term_fits at a in let q = factor_fits (at + length (term_symbols a) + 1) b in omega (arith, length-append {A = Symbol})

  factor_fits : {prelude : Bool} (at : ℕ) (a : FactorText prelude) → ix_size (factor_draft at a) ≤ length (factor_symbols a)
  factor_fits at (g.atom a) = atom_fits at a
  factor_fits at (g.negated a) = let p = atom_fits (at + 1) a in omega arith

  atom_fits : {prelude : Bool} (at : ℕ) (a : AtomText prelude) → ix_size (atom_draft at a) ≤ length (atom_symbols a)
  atom_fits at (g.literal digits) = omega arith
  atom_fits at (g.name w) = omega arith
  atom_fits at (g.grouped a) = let p = ix_fits (at + 1) a in omega (arith, length-append {A = Symbol})
  atom_fits at (g.chosen _ f a b) = let p = ix_fits (at + 2) a in let q = ix_fits (at + 2 + length (ix_symbols a) + 1) b in omega (arith, length-append {A = Symbol})
  atom_fits at (g.divided _ f a by _) = let p = ix_fits (at + 2) a in omega (arith, length-append {A = Symbol})

dims_fit : {prelude : Bool} (at : ℕ) (ds : DimsText prelude) → sum_by ix_size (dims_draft at ds) ≤ length (dims_symbols ds)
dims_fit at g.no_dims = omega arith
dims_fit at (g.and_dim ds a) =
    let p = dims_fit at ds in
    let q = ix_fits (at + length (dims_symbols ds) + 1) a in
    omega (arith, last_more ix_size (dims_draft at ds) (ix_draft (at + length (dims_symbols ds) + 1) a), length-append {A = Symbol})

joined_size : (cs ds : CondsDraft) → conds_size (and_conds cs ds) ≡ conds_size cs + conds_size ds
joined_size cs d.no_conds = omega arith
joined_size cs (d.and_cond ds c) = let p = joined_size cs ds in omega arith

conjuncts_size : (c : CondDraft) → conds_size (conjuncts c) ≤ cond_size c
conjuncts_size (d.comparison c) = omega arith
conjuncts_size (d.divisible a by_at by so) = omega arith
conjuncts_size (d.all_of cs) = omega arith
conjuncts_size (d.any_of cs) = omega arith

disjuncts_size : (c : CondDraft) → conds_size (disjuncts c) ≤ cond_size c
disjuncts_size (d.comparison c) = omega arith
disjuncts_size (d.divisible a by_at by so) = omega arith
disjuncts_size (d.all_of cs) = omega arith
disjuncts_size (d.any_of cs) = omega arith

mutual
  cond_fits : {prelude wide : Bool} (at : ℕ) (c : CondText prelude wide) → cond_size (cond_draft at c) ≤ length (cond_symbols c)
  cond_fits at (g.all_of a) = all_fits at a
  cond_fits at (g.or_all _ c a) =
      let next = at + length (cond_symbols c) + 1 in
      let p = cond_fits at c in
      let q = all_fits next a in
      let j = joined_size (disjuncts (cond_draft at c)) (disjuncts (all_draft next a)) in
      let k = disjuncts_size (cond_draft at c) in
      let l = disjuncts_size (all_draft next a) in
      omega (arith, length-append {A = Symbol})

  all_fits : {prelude wide : Bool} (at : ℕ) (a : AllText prelude wide) → cond_size (all_draft at a) ≤ length (all_symbols a)
  all_fits at (g.prim q) = prim_fits at q
  all_fits at (g.and_prim a q) =
      let next = at + length (all_symbols a) + 1 in
      let p = all_fits at a in
      let r = prim_fits next q in
      let j = joined_size (conjuncts (all_draft at a)) (conjuncts (prim_draft next q)) in
      let k = conjuncts_size (all_draft at a) in
      let l = conjuncts_size (prim_draft next q) in
      omega (arith, length-append {A = Symbol})

  prim_fits : {prelude wide : Bool} (at : ℕ) (q : PrimText prelude wide) → cond_size (prim_draft at q) ≤ length (prim_symbols q)
  prim_fits at (g.enclosed c) = let p = cond_fits (at + 1) c in omega (arith, length-append {A = Symbol})
  prim_fits at (g.compared a rel _ b) =
      let p = ix_fits at a in
      let q = ix_fits (at + length (ix_symbols a) + 1) b in
      omega (arith, length-append {A = Symbol})
  prim_fits at (g.divisible _ t by _ so) = let p = term_fits at t in omega (arith, length-append {A = Symbol})

comparison_fits : (c : CondDraft) → sum_by compare_size (comparison_in c) ≤ cond_size c
comparison_fits (d.comparison c) = let p = alone compare_size c in omega arith
comparison_fits (d.divisible a by_at by so) = omega arith
comparison_fits (d.all_of cs) = omega arith
comparison_fits (d.any_of cs) = omega arith

all_fit : (cs : CondsDraft) → sum_by compare_size (comparisons_of cs) ≤ conds_size cs
all_fit d.no_conds = omega arith
all_fit (d.and_cond cs c) =
    let p = all_fit cs in
    let q = comparison_fits c in
    omega (arith, sum_by-append compare_size (comparisons_of cs) (comparison_in c))

comparisons_fit : (c : CondDraft) → sum_by compare_size (comparisons_in c) ≤ cond_size c
comparisons_fit c =
    let p = all_fit (conjuncts c) in
    let q = conjuncts_size c in
    omega arith

value_fits : {prelude : Bool} {n : ℕ} (at : ℕ) (v : ValueText prelude n) → value_size (value_draft at v) ≤ length (value_symbols v)
value_fits at (g.complement v) = let p = value_fits (at + 1) v in omega arith
value_fits at (g.load array subs) = let p = dims_fit (at + 1) subs in omega arith
value_fits at (g.constant bytes) = omega arith
value_fits at (g.parens v) = let p = value_fits (at + 1) v in omega (arith, length-append {A = Symbol})
value_fits at (g.cast a) = let p = ix_fits (at + 4) a in omega (arith, length-append {A = Symbol})
value_fits at (g.operand v) = value_fits at v
value_fits at (g.binary a op _ b) = let p = value_fits at a in let q = value_fits (at + length (value_symbols a) + 1) b in omega (arith, length-append {A = Symbol})
value_fits at (g.shift v left by _) = let p = value_fits at v in omega (arith, length-append {A = Symbol})

locals_fit : {prelude : Bool} (at : ℕ) (ls : LocalsText prelude) → sum_by local_size (locals_draft at ls) ≤ length (locals_symbols ls)
locals_fit at g.no_locals = omega arith
locals_fit at (g.and_local _ ls w a) =
    let next = at + length (locals_symbols ls) in
    let p = locals_fit at ls in
    let q = ix_fits (next + 4) a in
    omega (arith, last_more local_size (locals_draft at ls) (record { at = next + 2; name = w; value = ix_draft (next + 4) a }), length-append {A = Symbol})

mutual
  stmts_fit : {prelude : Bool} (at : ℕ) (ss : StmtsText prelude) → stmts_size (stmts_draft at ss) ≤ length (stmts_symbols ss)
  stmts_fit at g.no_stmts = omega arith
  stmts_fit at (g.and_stmt ss s) = let p = stmts_fit at ss in let q = stmt_fits (at + length (stmts_symbols ss)) s in omega (arith, length-append {A = Symbol})

  stmt_fits : {prelude : Bool} (at : ℕ) (s : StmtText prelude) → stmt_size (stmt_draft at s) ≤ length (stmt_symbols s)
  stmt_fits at (g.simple s) = simple_fits at s
  stmt_fits at (g.block ls ss) = let p = locals_fit (at + 1) ls in let q = stmts_fit (at + 1 + length (locals_symbols ls)) ss in omega (arith, length-append {A = Symbol})

  simple_fits : {prelude dangles : Bool} (at : ℕ) (s : SimpleText prelude dangles) → stmt_size (simple_draft at s) ≤ length (simple_symbols s)
  simple_fits at (g.for_loop iterator low tested strict high step body) =
      let p = ix_fits (at + 5) low in
      let q = ix_fits (at + 5 + length (ix_symbols low) + 1 + 2) high in
      let r = body_fits (at + d.head_length low high step) body in
      omega (arith, length-append {A = Symbol})
  simple_fits at (g.if_then c body) =
      let p = cond_fits (at + 2) c in
      let q = body_fits (at + 2 + length (cond_symbols c) + 1) body in
      omega (arith, length-append {A = Symbol})
  simple_fits at (g.if_else c body other) =
      let body_at = at + 2 + length (cond_symbols c) + 1 in
      let p = cond_fits (at + 2) c in
      let q = body_fits body_at body in
      let r = body_fits (body_at + length (body_symbols body) + 1) other in
      omega (arith, length-append {A = Symbol})
  simple_fits at (g.assign array subs op v) =
      let p = dims_fit (at + 1) subs in
      let q = value_fits (at + 1 + length (dims_symbols subs) + 1) v in
      omega (arith, length-append {A = Symbol})

  body_fits : {prelude dangles : Bool} (at : ℕ) (b : BodyText prelude dangles) → stmts_size (body_draft at b) ≤ length (body_symbols b)
  body_fits at (g.braces ss) = let p = stmts_fit (at + 1) ss in omega (arith, length-append {A = Symbol})
  body_fits at (g.bare s) = let p = simple_fits at s in omega arith

param_fits : {prelude : Bool} (at : ℕ) (q : ParamText prelude) → param_size (param_draft at q) ≤ length (param_symbols q)
param_fits at (g.number_param w) = omega arith
param_fits at (g.array_param is_const w first others) =
    let name_at = at + length (const_symbols is_const) + 1 in
    let p = ix_fits (name_at + 2) first in
    let q = dims_fit (name_at + 1 + length (dim_symbols first)) others in
    let one = length-append (ix_symbols first) (g.mark (codes "]") ∷ []) in
    let all = length-append (dim_symbols first) (dims_symbols others) in
    let whole = length-append (const_symbols is_const) (g.word (codes "uint64_t") ∷ g.word w ∷ (dim_symbols first ++ dims_symbols others)) in
    omega (arith, sum_by-cons ix_size (ix_draft (name_at + 2) first) (dims_draft (name_at + 1 + length (dim_symbols first)) others), one, all, whole)

params_fit : {prelude : Bool} (at : ℕ) (ps : ParamsText prelude) → sum_by param_size (params_draft at ps) ≤ length (params_symbols ps)
params_fit at (g.param a) = let p = param_fits at a in omega (arith, alone param_size (param_draft at a))
params_fit at (g.and_param ps a) =
    let p = params_fit at ps in
    let q = param_fits (at + length (params_symbols ps) + 1) a in
    omega (arith, last_more param_size (params_draft at ps) (param_draft (at + length (params_symbols ps) + 1) a), length-append {A = Symbol})

names_fit : {prelude : Bool} (at : ℕ) (ns : NamesText prelude) → sum_by decl_size (names_draft at ns) ≤ length (names_symbols ns)
names_fit at (g.one_array w dims) = let p = dims_fit (at + 1) dims in omega (arith, alone decl_size (d.temp_draft at w dims))
names_fit at (g.and_array ns w dims) =
    let next = at + length (names_symbols ns) + 1 in
    let p = names_fit at ns in
    let q = dims_fit (next + 1) dims in
    omega (arith, last_more decl_size (names_draft at ns) (d.temp_draft next w dims), length-append {A = Symbol})

decls_fit : {prelude : Bool} (at : ℕ) (ds : DeclsText prelude) → sum_by decl_size (decls_draft at ds) ≤ length (decls_symbols ds)
decls_fit at g.no_decls = omega arith
decls_fit at (g.and_decl ds ns) =
    let p = decls_fit at ds in
    let q = names_fit (at + length (decls_symbols ds) + 1) ns in
    omega (arith, sum_by-append decl_size (decls_draft at ds) (names_draft (at + length (decls_symbols ds) + 1) ns), length-append {A = Symbol})

pragmas_fit : (at : ℕ) (ps : PragmasText) → sum_by pragma_size (pragmas_draft at ps) ≤ length (pragmas_symbols ps)
pragmas_fit at g.no_pragmas = omega arith
pragmas_fit at (g.and_range ps w low high line) =
    let next = at + length (pragmas_symbols ps) in
    let p = pragmas_fit at ps in
    omega (arith, last_more pragma_size (pragmas_draft at ps) (d.range (d.word_draft (next + 4) w) (next + 5) (d.int_value low) (d.int_value high)), length-append {A = Symbol})
pragmas_fit at (g.and_context ps c line) =
    let next = at + length (pragmas_symbols ps) in
    let p = pragmas_fit at ps in
    let q = cond_fits (next + 4) c in
    let r = comparisons_fit (cond_draft (next + 4) c) in
    omega (arith, last_more pragma_size (pragmas_draft at ps) (d.context (next + 3) (comparisons_in (cond_draft (next + 4) c))), length-append {A = Symbol})

-- a text's draft is no larger than its tokens are many
pub text_fits : (c : Text) → text_size (text_draft c) ≤ length (text_symbols c)
text_fits c =
    let start = length (include_symbols c.line) in
    let at = start + length (pragmas_symbols c.pragmas) + length (prelude_symbols c.has_prelude) in
    let f = c.function in
    let body_at = at + 3 + length (params_symbols f.params) + 2 in
    let p = pragmas_fit start c.pragmas in
    let q = params_fit (at + 3) f.params in
    let r = decls_fit body_at f.decls in
    let s = stmts_fit (body_at + length (decls_symbols f.decls)) f.stmts in
    let inner = stmts_symbols f.stmts ++ g.mark (codes "}") ∷ [] in
    let body = decls_symbols f.decls ++ inner in
    let behind = prelude_symbols c.has_prelude ++ function_symbols f in
    omega (
      arith,
      p,
      q,
      r,
      s,
      length-append (stmts_symbols f.stmts) (g.mark (codes "}") ∷ []),
      length-append (decls_symbols f.decls) inner,
      length-append (params_symbols f.params) (g.mark (codes ")") ∷ g.mark (codes "{") ∷ body),
      length-append (prelude_symbols c.has_prelude) (function_symbols f),
      length-append (pragmas_symbols c.pragmas) behind,
      length-append (include_symbols c.line) (pragmas_symbols c.pragmas ++ behind),
    )

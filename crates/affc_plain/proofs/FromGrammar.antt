-- What a text without the prelude gives of its draft: no calls, loops up to "<" or "<=", no locals.
use Rattle.std.proofs.Common.{◌≡◌, ℕ, ◌+◌, Bool, true, false, List, [], ◌∷◌, ◌++◌, flat_map, refl, sym, subst}
use Rattle.std.proofs.lemmas.Grind.{flat_map-append}
use Rattle.std.proofs.lemmas.Bool.{false≢true}
use Rattle.affc_grammar.specs.Grammar as g
use Rattle.affc_grammar.specs.Grammar.{IxText, TermText, FactorText, AtomText, DimsText, CondText, AllText, PrimText, ValueText, LocalsText, StmtsText, StmtText, SimpleText, BodyText, ParamText, ParamsText, NamesText, DeclsText}
use Rattle.affc_grammar.specs.Draft.{IxDraft, CondsDraft, no_conds, and_cond, CondDraft, comparison, divisible, all_of, any_of, DeclDraft, ix_draft, term_draft, factor_draft, atom_draft, dims_draft, and_conds, conjuncts, disjuncts, cond_draft, all_draft, prim_draft, value_draft, bound_rel, stmts_draft, stmt_draft, simple_draft, body_draft, param_draft, params_draft, names_draft, decls_draft}
use Rattle.affc_grammar.specs.Limits.{conds_texts, cond_texts, value_texts, stmts_texts, stmt_texts, param_texts, products_in, large_parts}
use Rattle.affc_domain.specs.Plain.{is_upward}
use Rattle.affc_plain.proofs.Lists.{no_append}
use Rattle.affc_plain.proofs.Forms.{HasNoCalls}
use Rattle.affc_plain.proofs.Expressions.{AllFine}
use Rattle.affc_plain.proofs.Conditions.{AreBareConds, IsBareCond}
use Rattle.affc_plain.proofs.Statements.{AreBare, IsBare}

abbrev pub NoCalls : List IxDraft → Type 0
NoCalls [] = Unit {0}
NoCalls (x ∷ xs) = HasNoCalls x × NoCalls xs

pub calls_both : (xs ys : List IxDraft) → NoCalls xs → NoCalls ys → NoCalls (xs ++ ys)
calls_both [] ys h k = k
calls_both (x ∷ xs) ys h k = (h.0, calls_both xs ys h.1 k)

pub fine_all : (ds : List IxDraft) → NoCalls ds → flat_map products_in ds ≡ [] → flat_map large_parts ds ≡ [] → AllFine ds
fine_all [] h p l = tt
fine_all (x ∷ ds) h p l =
    let a = no_append (products_in x) (flat_map products_in ds) p in
    let b = no_append (large_parts x) (flat_map large_parts ds) l in
    (record { calls = h.0; products = a.0; parts = b.0 }, fine_all ds h.1 a.1 b.1)

mutual
  ix_calls : (at : ℕ) (a : IxText false) → HasNoCalls (ix_draft at a)
  ix_calls at (g.term a) = term_calls at a
  ix_calls at (g.plus a b) = (ix_calls at a, term_calls _ b)
  ix_calls at (g.minus a b) = (ix_calls at a, term_calls _ b)

  term_calls : (at : ℕ) (a : TermText false) → HasNoCalls (term_draft at a)
  term_calls at (g.factor a) = factor_calls at a
  term_calls at (g.times a b) = (term_calls at a, factor_calls _ b)

  factor_calls : (at : ℕ) (a : FactorText false) → HasNoCalls (factor_draft at a)
  factor_calls at (g.atom a) = atom_calls at a
  factor_calls at (g.negated a) = atom_calls _ a

  atom_calls : (at : ℕ) (a : AtomText false) → HasNoCalls (atom_draft at a)
  atom_calls at (g.literal digits) = tt
  atom_calls at (g.name w) = tt
  atom_calls at (g.grouped a) = ix_calls _ a
  atom_calls at (g.chosen h f a b) = absurd (false≢true h)
  atom_calls at (g.divided h f a by k) = absurd (false≢true h)

dims_calls : (at : ℕ) (ds : DimsText false) → NoCalls (dims_draft at ds)
dims_calls at g.no_dims = tt
dims_calls at (g.and_dim ds a) = calls_both (dims_draft at ds) _ (dims_calls at ds) (ix_calls _ a, tt)

-- ---- Conditions

joined_bare : (cs ds : CondsDraft) → AreBareConds cs → AreBareConds ds → AreBareConds (and_conds cs ds)
joined_bare cs no_conds h k = h
joined_bare cs (and_cond ds d) h k = (joined_bare cs ds h k.0, k.1)

conjuncts_bare : (c : CondDraft) → IsBareCond c → AreBareConds (conjuncts c)
conjuncts_bare (comparison c) h = (tt, h)
conjuncts_bare (divisible a by_at by so) h = (tt, h)
conjuncts_bare (all_of cs) h = h
conjuncts_bare (any_of cs) h = (tt, h)

disjuncts_bare : (c : CondDraft) → IsBareCond c → AreBareConds (disjuncts c)
disjuncts_bare (comparison c) h = (tt, h)
disjuncts_bare (divisible a by_at by so) h = (tt, h)
disjuncts_bare (all_of cs) h = (tt, h)
disjuncts_bare (any_of cs) h = h

mutual
  cond_bare : {wide : Bool} (at : ℕ) (c : CondText false wide) → IsBareCond (cond_draft at c)
  cond_bare at (g.all_of a) = all_bare at a
  cond_bare at (g.or_all h c a) = joined_bare (disjuncts (cond_draft at c)) _ (disjuncts_bare (cond_draft at c) (cond_bare at c)) (disjuncts_bare _ (all_bare _ a))

  all_bare : {wide : Bool} (at : ℕ) (a : AllText false wide) → IsBareCond (all_draft at a)
  all_bare at (g.prim q) = prim_bare at q
  all_bare at (g.and_prim a q) = joined_bare (conjuncts (all_draft at a)) _ (conjuncts_bare (all_draft at a) (all_bare at a)) (conjuncts_bare _ (prim_bare _ q))

  prim_bare : {wide : Bool} (at : ℕ) (q : PrimText false wide) → IsBareCond (prim_draft at q)
  prim_bare at (g.enclosed c) = cond_bare (at + 1) c
  prim_bare at (g.compared a rel h b) = (ix_calls at a, ix_calls _ b)
  prim_bare at (g.divisible h t by k so) = (term_calls at t, k)

mutual
  conds_calls : (cs : CondsDraft) → AreBareConds cs → NoCalls (conds_texts cs)
  conds_calls no_conds h = tt
  conds_calls (and_cond cs c) h = calls_both (conds_texts cs) (cond_texts c) (conds_calls cs h.0) (cond_calls c h.1)

  cond_calls : (c : CondDraft) → IsBareCond c → NoCalls (cond_texts c)
  cond_calls (comparison c) h = (h.0, (h.1, tt))
  cond_calls (divisible a by_at by so) h = (h.0, tt)
  cond_calls (all_of cs) h = conds_calls cs h
  cond_calls (any_of cs) h = conds_calls cs h

condition_calls : (at : ℕ) (c : CondText false true) → NoCalls (cond_texts (cond_draft at c))
condition_calls at c = cond_calls (cond_draft at c) (cond_bare at c)

-- ---- Values and statements

value_calls : {n : ℕ} (at : ℕ) (v : ValueText false n) → NoCalls (value_texts (value_draft at v))
value_calls at (g.complement v) = value_calls _ v
value_calls at (g.load array subs) = dims_calls _ subs
value_calls at (g.constant bytes) = tt
value_calls at (g.parens v) = value_calls _ v
value_calls at (g.cast a) = (ix_calls _ a, tt)
value_calls at (g.operand v) = value_calls at v
value_calls at (g.binary a op h b) = calls_both (value_texts (value_draft at a)) _ (value_calls at a) (value_calls _ b)
value_calls at (g.shift v left by h) = value_calls at v

bound_up : (strict : Bool) → is_upward (bound_rel strict) ≡ true
bound_up true = refl
bound_up false = refl

mutual
  pub stmts_calls : (at : ℕ) (ss : StmtsText false) → NoCalls (stmts_texts (stmts_draft at ss))
  stmts_calls at g.no_stmts = tt
  stmts_calls at (g.and_stmt ss s) = calls_both (stmts_texts (stmts_draft at ss)) _ (stmts_calls at ss) (stmt_calls _ s)

  stmt_calls : (at : ℕ) (s : StmtText false) → NoCalls (stmt_texts (stmt_draft at s))
  stmt_calls at (g.simple s) = simple_calls at s
  stmt_calls at (g.block g.no_locals ss) = stmts_calls _ ss
  stmt_calls at (g.block (g.and_local h ls w a) ss) = absurd (false≢true h)

  simple_calls : {dangles : Bool} (at : ℕ) (s : SimpleText false dangles) → NoCalls (stmt_texts (simple_draft at s))
  simple_calls at (g.for_loop iterator low tested strict high step body) = (ix_calls _ low, (ix_calls _ high, body_calls _ body))
  simple_calls at (g.if_then c body) = calls_both (cond_texts (cond_draft (at + 2) c) ++ stmts_texts (body_draft _ body)) [] (calls_both (cond_texts (cond_draft (at + 2) c)) _ (condition_calls (at + 2) c) (body_calls _ body)) tt
  simple_calls at (g.if_else c body other) =
      calls_both (cond_texts (cond_draft (at + 2) c) ++ stmts_texts (body_draft _ body)) _ (calls_both (cond_texts (cond_draft (at + 2) c)) _ (condition_calls (at + 2) c) (body_calls _ body)) (body_calls _ other)
  simple_calls at (g.assign array subs op v) = calls_both (dims_draft (at + 1) subs) _ (dims_calls (at + 1) subs) (value_calls _ v)

  body_calls : {dangles : Bool} (at : ℕ) (b : BodyText false dangles) → NoCalls (stmts_texts (body_draft at b))
  body_calls at (g.braces ss) = stmts_calls _ ss
  body_calls at (g.bare s) = simple_calls at s

mutual
  pub stmts_bare : (at : ℕ) (ss : StmtsText false) → AreBare (stmts_draft at ss)
  stmts_bare at g.no_stmts = tt
  stmts_bare at (g.and_stmt ss s) = (stmts_bare at ss, stmt_bare _ s)

  stmt_bare : (at : ℕ) (s : StmtText false) → IsBare (stmt_draft at s)
  stmt_bare at (g.simple s) = simple_bare at s
  stmt_bare at (g.block g.no_locals ss) = (refl, stmts_bare _ ss)
  stmt_bare at (g.block (g.and_local h ls w a) ss) = absurd (false≢true h)

  simple_bare : {dangles : Bool} (at : ℕ) (s : SimpleText false dangles) → IsBare (simple_draft at s)
  simple_bare at (g.for_loop iterator low tested strict high step body) = (bound_up strict, body_bare _ body)
  simple_bare at (g.if_then c body) = (cond_bare (at + 2) c, body_bare _ body, tt)
  simple_bare at (g.if_else c body other) = (cond_bare (at + 2) c, body_bare _ body, body_bare _ other)
  simple_bare at (g.assign array subs op v) = tt

  body_bare : {dangles : Bool} (at : ℕ) (b : BodyText false dangles) → AreBare (body_draft at b)
  body_bare at (g.braces ss) = stmts_bare _ ss
  body_bare at (g.bare s) = (tt, simple_bare at s)

param_calls : (at : ℕ) (q : ParamText false) → NoCalls (param_texts (param_draft at q))
param_calls at (g.number_param w) = tt
param_calls at (g.array_param is_const w first others) = (ix_calls _ first, dims_calls _ others)

pub params_calls : (at : ℕ) (ps : ParamsText false) → NoCalls (flat_map param_texts (params_draft at ps))
params_calls at (g.param a) = calls_both (param_texts (param_draft at a)) [] (param_calls at a) tt
params_calls at (g.and_param ps a) =
    subst NoCalls (sym (flat_map-append param_texts (params_draft at ps) _))
    (calls_both (flat_map param_texts (params_draft at ps)) _ (params_calls at ps) (calls_both (param_texts (param_draft _ a)) [] (param_calls _ a) tt))

abbrev pub extents_of : DeclDraft → List IxDraft
extents_of d = d.extents

names_calls : (at : ℕ) (ns : NamesText false) → NoCalls (flat_map extents_of (names_draft at ns))
names_calls at (g.one_array w dims) = calls_both (dims_draft (at + 1) dims) [] (dims_calls (at + 1) dims) tt
names_calls at (g.and_array ns w dims) =
    subst NoCalls (sym (flat_map-append extents_of (names_draft at ns) _))
    (calls_both (flat_map extents_of (names_draft at ns)) _ (names_calls at ns) (calls_both (dims_draft _ dims) [] (dims_calls _ dims) tt))

pub decls_calls : (at : ℕ) (ds : DeclsText false) → NoCalls (flat_map extents_of (decls_draft at ds))
decls_calls at g.no_decls = tt
decls_calls at (g.and_decl ds ns) =
    subst NoCalls (sym (flat_map-append extents_of (decls_draft at ds) _)) (calls_both (flat_map extents_of (decls_draft at ds)) _ (decls_calls at ds) (names_calls _ ns))

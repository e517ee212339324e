-- A text without the prelude has no locals.
use Rattle.std.proofs.Common.{◌≡◌, ℕ, Bool, true, false, List, [], ◌∷◌, ◌++◌, length, map, Ok, refl, sym, ap, subst, ◌∙◌}
use Rattle.std.specs.Prelude.{IsTrue}
use Rattle.std.proofs.lemmas.Bool.{false≢true, and_from, and_parts}
use Rattle.std.proofs.lemmas.List.{map-append}
use Rattle.affc_ast.specs.declared.tree.Local.{Local}
use Rattle.affc_ast.specs.declared.tree.Program.{Program}
use Rattle.affc_ast.specs.declared.tree.Stmt.{Stmt}
use Rattle.affc_ast.specs.declared.tree.Stmt.TheOpen as layer
use Rattle.affc_ast.specs.Locals.{all_true, plain_step, has_no_locals}
use Rattle.affc_ast.specs.Recursion.{by_stmt}
use Rattle.affc_grammar.specs.Grammar as g
use Rattle.affc_grammar.specs.Grammar.{StmtsText, StmtText, SimpleText, BodyText}
use Rattle.affc_grammar.specs.Draft.{StmtsDraft, no_stmts, and_stmt, StmtDraft, for_loop, if_cond, assign, block, stmts_draft, stmt_draft, simple_draft, body_draft, text_draft}
use Rattle.affc_grammar.specs.Limits.{Limits}
use Rattle.affc_grammar.specs.Names.{Scope, each, ix_tree, cond_tree, value_tree, array_named, locals_tree, head_tree, stmts_tree, stmt_tree, with_number}
use Rattle.affc_grammar.specs.Reads.{symbols, has_prelude, ReadsBy}
use Rattle.affc_grammar.proofs.Counts.{tree_parts, tree_kept}
use Rattle.affc_grammar.proofs.Steps.{ok_of, then_is, for_here, if_here, block_here}

-- no block has a local
abbrev mutual
  AreBare : StmtsDraft → Type 0
  AreBare no_stmts = Unit {0}
  AreBare (and_stmt ss s) = AreBare ss × IsBare s

  IsBare : StmtDraft → Type 0
  IsBare (for_loop h body) = AreBare body
  IsBare (if_cond at c body other) = AreBare body × AreBare other
  IsBare (assign w subs op v) = Unit {0}
  IsBare (block ls body) = (ls ≡ []) × AreBare body

-- ---- The drafts of the grammar

mutual
  stmts_bare : (at : ℕ) (ss : StmtsText false) → AreBare (stmts_draft at ss)
  stmts_bare at g.no_stmts = tt
  stmts_bare at (g.and_stmt ss s) = (stmts_bare at ss, stmt_bare _ s)

  stmt_bare : (at : ℕ) (s : StmtText false) → IsBare (stmt_draft at s)
  stmt_bare at (g.simple s) = simple_bare at s
  stmt_bare at (g.block g.no_locals ss) = (refl, stmts_bare _ ss)
  stmt_bare at (g.block (g.and_local h ls w a) ss) = absurd (false≢true h)

  simple_bare : {dangles : Bool} (at : ℕ) (s : SimpleText false dangles) → IsBare (simple_draft at s)
  simple_bare at (g.for_loop iterator low tested strict high step body) = body_bare _ body
  simple_bare at (g.if_then c body) = (body_bare _ body, tt)
  simple_bare at (g.if_else c body other) = (body_bare _ body, body_bare _ other)
  simple_bare at (g.assign array subs op v) = tt

  body_bare : {dangles : Bool} (at : ℕ) (b : BodyText false dangles) → AreBare (body_draft at b)
  body_bare at (g.braces ss) = stmts_bare _ ss
  body_bare at (g.bare s) = (tt, simple_bare at s)

all_bare : (prelude : Bool) → prelude ≡ false → (at : ℕ) (ss : StmtsText prelude) → AreBare (stmts_draft at ss)
all_bare true e at ss = absurd (false≢true (sym e))
all_bare false e at ss = stmts_bare at ss

-- ---- Their trees

all_more : (bs : List Bool) (b : Bool) → all_true bs ≡ true → b ≡ true → all_true (bs ++ b ∷ []) ≡ true
all_more [] b h e = and_from b true e refl
all_more (c ∷ bs) b h e = let p = and_parts c (all_true bs) h in and_from c (all_true (bs ++ b ∷ [])) p.0 (all_more bs b p.1 e)

abbrev ArePlain : List Stmt → Type 0
ArePlain xs = all_true (map (by_stmt plain_step) xs) ≡ true

mutual
  stmts_plain : (scope : Scope) (c : StmtsDraft) (xs : List Stmt) → stmts_tree scope c ≡ Ok xs → AreBare c → ArePlain xs
  stmts_plain scope no_stmts xs e bare = subst ArePlain (ok_of e) refl
  stmts_plain scope (and_stmt cs c) xs e bare =
      let p = then_is (stmts_tree scope cs) _ xs e in
      let q = then_is (stmt_tree scope c) _ xs p.2 in
      subst ArePlain (ok_of q.2)
      (ap all_true (map-append (by_stmt plain_step) p.0 (q.0 ∷ [])) ∙ all_more (map (by_stmt plain_step) p.0) (by_stmt plain_step q.0) (stmts_plain scope cs p.0 p.1 bare.0) (stmt_plain scope c q.0 q.1 bare.1))

  stmt_plain : (scope : Scope) (c : StmtDraft) (x : Stmt) → stmt_tree scope c ≡ Ok x → IsBare c → by_stmt plain_step x ≡ true
  stmt_plain scope (for_loop h body) x e bare =
      let p = then_is (head_tree scope h) _ x e in
      let q = then_is (stmts_tree (with_number true scope h.iterator.name) body) _ x p.2 in
      subst (λ (y : Stmt). by_stmt plain_step y ≡ true) (ok_of q.2)
      (for_here plain_step h.iterator.name p.0.0 h.rel p.0.1 q.0 ∙ stmts_plain (with_number true scope h.iterator.name) body q.0 q.1 bare)
  stmt_plain scope (if_cond at c body other) x e bare =
      let p = then_is (cond_tree scope c) _ x e in
      let q = then_is (stmts_tree scope body) _ x p.2 in
      let r = then_is (stmts_tree scope other) _ x q.2 in
      subst (λ (y : Stmt). by_stmt plain_step y ≡ true) (ok_of r.2)
      (if_here plain_step p.0 q.0 r.0 ∙ and_from _ _ (stmts_plain scope body q.0 q.1 bare.0) (stmts_plain scope other r.0 r.1 bare.1))
  stmt_plain scope (assign w subs op v) x e bare =
      let p = then_is (array_named scope w.at w.name true (length subs)) _ x e in
      let q = then_is (each (ix_tree scope) subs) _ x p.2 in
      let r = then_is (value_tree scope v) _ x q.2 in
      subst (λ (y : Stmt). by_stmt plain_step y ≡ true) (ok_of r.2) refl
  stmt_plain scope (block cs body) x e bare =
      let p = then_is (locals_tree scope cs) _ x e in
      let q = then_is (stmts_tree p.0.1 body) _ x p.2 in
      let none : [] ≡ p.0.0 = ap (λ (z : List Local × Scope). z.0) (ok_of (sym (ap (locals_tree scope) bare.0) ∙ p.1)) in
      subst (λ (y : Stmt). by_stmt plain_step y ≡ true) (ok_of q.2)
      (block_here plain_step p.0.0 q.0 ∙ ap (λ (ls : List Local). plain_step (layer.Block ls (map (by_stmt plain_step) q.0))) (sym none) ∙ stmts_plain p.0.1 body q.0 q.1 bare.1)

pub reads_plain : (limits_for : Bool → Limits) (text : List ℕ) (p : Program) → ReadsBy limits_for text p → p.prelude ≡ false → IsTrue (has_no_locals p)
reads_plain limits_for text p r plain =
    let c = r.derives.written in
    let t = tree_parts (text_draft c) p (tree_kept (limits_for (has_prelude (symbols r.tokens))) (text_draft c) p r.derives.its_tree).0 in
    stmts_plain t.temps_are.1 (text_draft c).body p.body t.body (all_bare c.has_prelude (sym t.prelude ∙ plain) _ c.function.stmts)

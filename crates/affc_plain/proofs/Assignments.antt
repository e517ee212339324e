-- A tree has as many assignments as its text.
use Rattle.std.proofs.Common.{◌≡◌, ℕ, ◌+◌, true, List, [], ◌∷◌, ◌++◌, length, map, flat_map, Some, None, Ok, refl, sym, ap, subst, ◌∙◌, arith, length-append}
use Rattle.std.proofs.lemmas.Grind.{flat_map-append}
use Rattle.affc_ast.specs.declared.tree.Stmt.{Stmt}
use Rattle.affc_ast.specs.Recursion.{by_stmt}
use Rattle.affc_ast.specs.Trace.{Assignment, joined, assignments_step}
use Rattle.affc_ast.proofs.Steps.{for_here, if_here, block_here}
use Rattle.affc_grammar.specs.Draft.{StmtsDraft, no_stmts, and_stmt, StmtDraft, for_loop, if_cond, assign, block}
use Rattle.affc_grammar.specs.Names.{Scope, each, with_number, array_named, ix_tree, cond_tree, value_tree, locals_tree, head_tree, stmts_tree, stmt_tree}
use Rattle.affc_grammar.specs.Limits.{Round, under_body, under_other, assigned, assigned_in}
use Rattle.affc_plain.proofs.Forms.{then_ok}
use Rattle.affc_plain.proofs.Expressions.{ok_of}

abbrev step : Stmt → List Assignment
step = by_stmt assignments_step

joined_map : (xs : List Stmt) → joined (map step xs) ≡ flat_map step xs
joined_map [] = refl
joined_map (x ∷ xs) = ap (λ t. step x ++ t) (joined_map xs)

abbrev SameAll : (n : Round) → StmtsDraft → List Stmt → Type 0
SameAll n d xs = length (flat_map step xs) ≡ length (assigned n d)

abbrev SameOne : (n : Round) → StmtDraft → Stmt → Type 0
SameOne n d x = length (step x) ≡ length (assigned_in n d)

mutual
  pub stmts_counted : (n : Round) (scope : Scope) (d : StmtsDraft) (xs : List Stmt) → stmts_tree scope d ≡ Ok xs → length (flat_map (by_stmt assignments_step) xs) ≡ length (assigned n d)
  stmts_counted n scope no_stmts xs t = subst (SameAll n no_stmts) (ok_of t) refl
  stmts_counted n scope (and_stmt ss s) xs t =
      let r = then_ok (stmts_tree scope ss) _ xs t in
      let q = then_ok (stmt_tree scope s) _ xs r.2 in
      let whole : length (flat_map step (r.0 ++ q.0 ∷ [])) ≡ length (flat_map step r.0) + length (step q.0 ++ []) =
      ap length (flat_map-append step r.0 (q.0 ∷ [])) ∙ length-append (flat_map step r.0) (step q.0 ++ []) in
      subst (SameAll n (and_stmt ss s)) (ok_of q.2)
      (whole ∙ sum (length (flat_map step r.0)) (length (step q.0 ++ [])) (length (step q.0)) (length (assigned n ss)) (length (assigned_in n s))
      (length-append (step q.0) []) (stmts_counted n scope ss r.0 r.1) (stmt_counted n scope s q.0 q.1)
      ∙ sym (length-append (assigned n ss) (assigned_in n s)))
    where
      sum : (a b c d e : ℕ) → b ≡ c + 0 → a ≡ d → c ≡ e → a + b ≡ d + e
      sum a b c d e f g h = omega (arith, f, g, h)

  stmt_counted : (n : Round) (scope : Scope) (d : StmtDraft) (x : Stmt) → stmt_tree scope d ≡ Ok x → length (by_stmt assignments_step x) ≡ length (assigned_in n d)
  stmt_counted n scope (for_loop h body) x t =
      let inside : Scope = with_number true scope h.iterator.name in
      let r = then_ok (head_tree scope h) _ x t in
      let q = then_ok (stmts_tree inside body) _ x r.2 in
      subst (SameOne n (for_loop h body)) (ok_of q.2) (ap length (for_here assignments_step h.iterator.name r.0.0 h.rel r.0.1 q.0 ∙ joined_map q.0) ∙ stmts_counted n inside body q.0 q.1)
  stmt_counted n scope (if_cond at c body other) x t =
      let r = then_ok (cond_tree scope c) _ x t in
      let q = then_ok (stmts_tree scope body) _ x r.2 in
      let o = then_ok (stmts_tree scope other) _ x q.2 in
      subst (SameOne n (if_cond at c body other)) (ok_of o.2)
      (ap length (if_here assignments_step r.0 q.0 o.0)
      ∙ length-append (joined (map step q.0)) (joined (map step o.0))
      ∙ ap (λ k. k + length (joined (map step o.0))) (ap length (joined_map q.0) ∙ stmts_counted (under_body c n) scope body q.0 q.1)
      ∙ ap (λ k. length (assigned (under_body c n) body) + k) (ap length (joined_map o.0) ∙ stmts_counted (under_other c n) scope other o.0 o.1)
      ∙ sym (length-append (assigned (under_body c n) body) (assigned (under_other c n) other)))
  stmt_counted n scope (assign w subs None v) x t =
      let r = then_ok (array_named scope w.at w.name true (length subs)) _ x t in
      let q = then_ok (each (ix_tree scope) subs) _ x r.2 in
      let o = then_ok (value_tree scope v) _ x q.2 in
      subst (SameOne n (assign w subs None v)) (ok_of o.2) refl
  stmt_counted n scope (assign w subs (Some op) v) x t =
      let r = then_ok (array_named scope w.at w.name true (length subs)) _ x t in
      let q = then_ok (each (ix_tree scope) subs) _ x r.2 in
      let o = then_ok (value_tree scope v) _ x q.2 in
      subst (SameOne n (assign w subs (Some op) v)) (ok_of o.2) refl
  stmt_counted n scope (block ls body) x t =
      let r = then_ok (locals_tree scope ls) _ x t in
      let q = then_ok (stmts_tree r.0.1 body) _ x r.2 in
      subst (SameOne n (block ls body)) (ok_of q.2) (ap length (block_here assignments_step r.0.0 q.0 ∙ joined_map q.0) ∙ stmts_counted n r.0.1 body q.0 q.1)

-- The limit on the numbers of remainders, by the tree that a text is read as.
use Rattle.std.proofs.Common.{◌≡◌, ℕ, ◌&&◌, Bool, true, false, not, nat_lt, List, [], ◌∷◌, ◌++◌, length, map, Ok, pos, refl, sym, ap, ◌∙◌}
use Rattle.affc_ast.specs.declared.tree.Cond.{Cond}
use Rattle.affc_ast.specs.declared.tree.Stmt.{Stmt}
use Rattle.affc_ast.specs.Fits.{all_true}
use Rattle.affc_ast.proofs.Steps.{all_here, any_here, for_here, if_here, block_here}
use Rattle.affc_grammar.specs.Draft.{CondsDraft, no_conds, and_cond, CondDraft, comparison, divisible, all_of, any_of, StmtsDraft, no_stmts, and_stmt, StmtDraft, for_loop, if_cond, assign, block}
use Rattle.affc_grammar.specs.Names.{Scope, each, with_number, array_named, ix_tree, conds_tree, cond_tree, value_tree, locals_tree, head_tree, stmts_tree, stmt_tree}
use Rattle.affc_grammar.specs.Limits.{wide_limits, conds_past, cond_past, divisors_past, divisors_past_in}
use Rattle.affc_cprint.specs.Forms.{is_none}
use Rattle.affc_cprint.proofs.Products.{none_append, none_if}
use Rattle.affc_cprint.proofs.Sees.{ok_of, both_ok}
use Rattle.affc_wellnamed.specs.Work.{small_step, cond_fits, fits_step, stmt_fits}

abbrev limit : ℕ
limit = wide_limits.divisor

and_true : (b : Bool) → (b && true) ≡ b
and_true true = refl
and_true false = refl

-- with one more
one_more : {A : Type 0} (f : A → Bool) (xs : List A) (x : A) → all_true (map f (xs ++ x ∷ [])) ≡ (all_true (map f xs) && f x)
one_more f [] x = and_true (f x)
one_more f (y ∷ xs) x = ap (λ b. f y && b) (one_more f xs x) ∙ assoc (f y) (all_true (map f xs)) (f x)
  where
    assoc : (a b c : Bool) → (a && (b && c)) ≡ ((a && b) && c)
    assoc true b c = refl
    assoc false b c = refl

mutual
  conds_small : (scope : Scope) (d : CondsDraft) (xs : List Cond) → conds_tree scope d ≡ Ok xs → is_none (conds_past limit d) ≡ all_true (map cond_fits xs)
  conds_small scope no_conds xs e = ap (λ l. all_true (map cond_fits l)) (ok_of e)
  conds_small scope (and_cond cs c) xs e =
      let p = both_ok (conds_tree scope cs) _ xs e in
      let q = both_ok (cond_tree scope c) _ xs p.2 in
      none_append (conds_past limit cs) (cond_past limit c) ∙ ap (λ b. b && is_none (cond_past limit c)) (conds_small scope cs p.0 p.1) ∙ ap (λ b. all_true (map cond_fits p.0) && b) (cond_small scope c q.0 q.1)
      ∙ sym (one_more cond_fits p.0 q.0) ∙ ap (λ l. all_true (map cond_fits l)) (ok_of q.2)

  cond_small : (scope : Scope) (d : CondDraft) (x : Cond) → cond_tree scope d ≡ Ok x → is_none (cond_past limit d) ≡ cond_fits x
  cond_small scope (comparison c) x e =
      let p = both_ok (ix_tree scope c.left) _ x e in
      let q = both_ok (ix_tree scope c.right) _ x p.2 in
      ap cond_fits (ok_of q.2)
  cond_small scope (divisible a by_at by so) x e =
      let p = both_ok (ix_tree scope a) _ x e in
      none_if (nat_lt limit by) by_at ∙ ap cond_fits (ok_of p.2)
  cond_small scope (all_of cs) x e =
      let p = both_ok (conds_tree scope cs) _ x e in
      conds_small scope cs p.0 p.1 ∙ sym (all_here small_step p.0) ∙ ap cond_fits (ok_of p.2)
  cond_small scope (any_of cs) x e =
      let p = both_ok (conds_tree scope cs) _ x e in
      conds_small scope cs p.0 p.1 ∙ sym (any_here small_step p.0) ∙ ap cond_fits (ok_of p.2)

mutual
  pub stmts_small : (scope : Scope) (d : StmtsDraft) (xs : List Stmt) → stmts_tree scope d ≡ Ok xs → is_none (divisors_past limit d) ≡ all_true (map stmt_fits xs)
  stmts_small scope no_stmts xs e = ap (λ l. all_true (map stmt_fits l)) (ok_of e)
  stmts_small scope (and_stmt ss s) xs e =
      let p = both_ok (stmts_tree scope ss) _ xs e in
      let q = both_ok (stmt_tree scope s) _ xs p.2 in
      none_append (divisors_past limit ss) (divisors_past_in limit s) ∙ ap (λ b. b && is_none (divisors_past_in limit s)) (stmts_small scope ss p.0 p.1) ∙ ap (λ b. all_true (map stmt_fits p.0) && b) (stmt_small scope s q.0 q.1)
      ∙ sym (one_more stmt_fits p.0 q.0) ∙ ap (λ l. all_true (map stmt_fits l)) (ok_of q.2)

  stmt_small : (scope : Scope) (d : StmtDraft) (x : Stmt) → stmt_tree scope d ≡ Ok x → is_none (divisors_past_in limit d) ≡ stmt_fits x
  stmt_small scope (for_loop h body) x e =
      let p = both_ok (head_tree scope h) _ x e in
      let q = both_ok (stmts_tree (with_number true scope h.iterator.name) body) _ x p.2 in
      stmts_small (with_number true scope h.iterator.name) body q.0 q.1 ∙ sym (for_here fits_step h.iterator.name p.0.0 h.rel p.0.1 q.0) ∙ ap stmt_fits (ok_of q.2)
  stmt_small scope (if_cond at c body other) x e =
      let p = both_ok (cond_tree scope c) _ x e in
      let q = both_ok (stmts_tree scope body) _ x p.2 in
      let s = both_ok (stmts_tree scope other) _ x q.2 in
      none_append (cond_past limit c ++ divisors_past limit body) (divisors_past limit other)
      ∙ ap (λ b. b && is_none (divisors_past limit other)) (none_append (cond_past limit c) (divisors_past limit body) ∙ ap (λ b. b && is_none (divisors_past limit body)) (cond_small scope c p.0 p.1) ∙ ap (λ b. cond_fits p.0 && b) (stmts_small scope body q.0 q.1))
      ∙ ap (λ b. (cond_fits p.0 && all_true (map stmt_fits q.0)) && b) (stmts_small scope other s.0 s.1)
      ∙ assoc (cond_fits p.0) (all_true (map stmt_fits q.0)) (all_true (map stmt_fits s.0))
      ∙ sym (if_here fits_step p.0 q.0 s.0) ∙ ap stmt_fits (ok_of s.2)
    where
      assoc : (a b c : Bool) → ((a && b) && c) ≡ (a && (b && c))
      assoc true b c = refl
      assoc false b c = refl
  stmt_small scope (assign w subs op v) x e =
      let p = both_ok (array_named scope w.at w.name true (length subs)) _ x e in
      let q = both_ok (each (ix_tree scope) subs) _ x p.2 in
      let r = both_ok (value_tree scope v) _ x q.2 in
      ap stmt_fits (ok_of r.2)
  stmt_small scope (block ls body) x e =
      let p = both_ok (locals_tree scope ls) _ x e in
      let q = both_ok (stmts_tree p.0.1 body) _ x p.2 in
      stmts_small p.0.1 body q.0 q.1 ∙ sym (block_here fits_step p.0.0 q.0) ∙ ap stmt_fits (ok_of q.2)

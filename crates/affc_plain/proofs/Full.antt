-- Each loop and each `if` of a text that keeps the limits holds an assignment.
use Rattle.std.proofs.Common.{◌≡◌, ℕ, suc, Bool, true, false, List, [], ◌∷◌, ◌++◌, length, map, Some, None, Ok, refl, sym, ap, subst, ◌∙◌, arith}
use Rattle.std.specs.Prelude.{not, ◌&&◌, ◌||◌, nat_lt}
use Rattle.std.proofs.lemmas.Bool.Decides.{nat_tests}
use Rattle.std.proofs.lemmas.List.{map-append}
use Rattle.affc_ast.specs.declared.tree.Stmt.{Stmt}
use Rattle.affc_ast.specs.Recursion.{by_stmt}
use Rattle.affc_ast.proofs.Steps.{for_here, if_here, block_here}
use Rattle.affc_grammar.specs.Draft.{StmtsDraft, no_stmts, and_stmt, StmtDraft, for_loop, if_cond, assign, block}
use Rattle.affc_grammar.specs.Names.{Scope, each, with_number, array_named, ix_tree, cond_tree, value_tree, head_tree, stmts_tree, stmt_tree}
use Rattle.affc_grammar.specs.Limits.{at_if, Round, no_round, under_body, under_other, Assigned, assigned, assigned_in, has_assignment, empty_bodies, empty_bodies_in}
use Rattle.affc_trace.proofs.Members.{both_hold, hold_both}
use Rattle.affc_plain.proofs.Lists.{no_append, is_not}
use Rattle.affc_plain.proofs.Forms.{then_ok, not_placed}
use Rattle.affc_domain.specs.Plain.{some_hold, all_full, full_step}
use Rattle.affc_plain.proofs.Expressions.{ok_of}
use Rattle.affc_plain.proofs.Statements.{AreBare, IsBare}

more : (n : ℕ) → nat_lt 0 (suc n) ≡ true
more n = grind (arith, nat_tests)

some_assigned : (xs ys : List Assigned) → nat_lt 0 (length (xs ++ ys)) ≡ (nat_lt 0 (length xs) || nat_lt 0 (length ys))
some_assigned [] ys = refl
some_assigned (x ∷ xs) ys = more (length (xs ++ ys)) ∙ ap (λ t. t || nat_lt 0 (length ys)) (sym (more (length xs)))

or_false : (b : Bool) → (b || false) ≡ b
or_false true = refl
or_false false = refl

some_end : (ps : List (Bool × Bool)) (p : Bool × Bool) → some_hold (ps ++ p ∷ []) ≡ (some_hold ps || p.0)
some_end [] p = or_false p.0
some_end (q ∷ ps) p = ap (λ t. q.0 || t) (some_end ps p) ∙ grouped q.0 (some_hold ps) p.0
  where
    grouped : (a b c : Bool) → (a || (b || c)) ≡ ((a || b) || c)
    grouped true b c = refl
    grouped false b c = refl

full_end : (ps : List (Bool × Bool)) (p : Bool × Bool) → all_full ps ≡ true → p.1 ≡ true → all_full (ps ++ p ∷ []) ≡ true
full_end [] p h k = hold_both p.1 true k refl
full_end (q ∷ ps) p h k = let a = both_hold q.1 (all_full ps) h in hold_both q.1 (all_full (ps ++ p ∷ [])) a.0 (full_end ps p a.1 k)

abbrev pub FullAll : StmtsDraft → List Stmt → Type 0
FullAll d xs = ((n : Round) → some_hold (map (by_stmt full_step) xs) ≡ nat_lt 0 (length (assigned n d))) × (all_full (map (by_stmt full_step) xs) ≡ true)

abbrev pub FullOne : StmtDraft → Stmt → Type 0
FullOne d x = ((n : Round) → (by_stmt full_step x).0 ≡ nat_lt 0 (length (assigned_in n d))) × ((by_stmt full_step x).1 ≡ true)

mutual
  pub stmts_full : (scope : Scope) (d : StmtsDraft) (xs : List Stmt) → stmts_tree scope d ≡ Ok xs → AreBare d → empty_bodies d ≡ [] → FullAll d xs
  stmts_full scope no_stmts xs t b e = subst (FullAll no_stmts) (ok_of t) ((λ n. refl), refl)
  stmts_full scope (and_stmt ss s) xs t b e =
      let r = then_ok (stmts_tree scope ss) _ xs t in
      let q = then_ok (stmt_tree scope s) _ xs r.2 in
      let ep = no_append (empty_bodies ss) (empty_bodies_in s) e in
      let first = stmts_full scope ss r.0 r.1 b.0 ep.0 in
      let last = stmt_full scope s q.0 q.1 b.1 ep.1 in
      subst (FullAll (and_stmt ss s)) (ok_of q.2) (
        (λ n. ap some_hold (map-append (by_stmt full_step) r.0 (q.0 ∷ [])) ∙ some_end (map (by_stmt full_step) r.0) (by_stmt full_step q.0) ∙ ap (λ t. t || (by_stmt full_step q.0).0) (first.0 n)
            ∙ ap (λ t. nat_lt 0 (length (assigned n ss)) || t) (last.0 n) ∙ sym (some_assigned (assigned n ss) (assigned_in n s))),
        ap all_full (map-append (by_stmt full_step) r.0 (q.0 ∷ [])) ∙ full_end (map (by_stmt full_step) r.0) (by_stmt full_step q.0) first.1 last.1,
      )

  stmt_full : (scope : Scope) (d : StmtDraft) (x : Stmt) → stmt_tree scope d ≡ Ok x → IsBare d → empty_bodies_in d ≡ [] → FullOne d x
  stmt_full scope (for_loop h body) x t b e =
      let r = then_ok (head_tree scope h) _ x t in
      let q = then_ok (stmts_tree (with_number true scope h.iterator.name) body) _ x r.2 in
      let ep = no_append (at_if (not (has_assignment body)) h.at) (empty_bodies body) e in
      let inner = stmts_full (with_number true scope h.iterator.name) body q.0 q.1 b.1 ep.1 in
      let here = for_here full_step h.iterator.name r.0.0 h.rel r.0.1 q.0 in
      let holds : some_hold (map (by_stmt full_step) q.0) ≡ true = inner.0 no_round ∙ is_not (has_assignment body) (not_placed (not (has_assignment body)) h.at ep.0) in
      subst (FullOne (for_loop h body)) (ok_of q.2)
      ((λ n. ap (λ (p : Bool × Bool). p.0) here ∙ inner.0 n), ap (λ (p : Bool × Bool). p.1) here ∙ hold_both (some_hold (map (by_stmt full_step) q.0)) (all_full (map (by_stmt full_step) q.0)) holds inner.1)
  stmt_full scope (if_cond at c body other) x t b e =
      let r = then_ok (cond_tree scope c) _ x t in
      let q = then_ok (stmts_tree scope body) _ x r.2 in
      let o = then_ok (stmts_tree scope other) _ x q.2 in
      let ep1 = no_append (at_if (not (has_assignment body || has_assignment other)) at ++ empty_bodies body) (empty_bodies other) e in
      let ep = no_append (at_if (not (has_assignment body || has_assignment other)) at) (empty_bodies body) ep1.0 in
      let inner = stmts_full scope body q.0 q.1 b.1 ep.1 in
      let others = stmts_full scope other o.0 o.1 b.2 ep1.1 in
      let here = if_here full_step r.0 q.0 o.0 in
      let some : Bool = some_hold (map (by_stmt full_step) q.0) || some_hold (map (by_stmt full_step) o.0) in
      let holds : some ≡ true =
      ap (λ u. u || some_hold (map (by_stmt full_step) o.0)) (inner.0 no_round) ∙ ap (λ u. has_assignment body || u) (others.0 no_round) ∙ is_not (has_assignment body || has_assignment other) (not_placed (not (has_assignment body || has_assignment other)) at ep.0) in
      subst (FullOne (if_cond at c body other)) (ok_of o.2) (
        (λ n. ap (λ (p : Bool × Bool). p.0) here ∙ ap (λ u. u || some_hold (map (by_stmt full_step) o.0)) (inner.0 (under_body c n)) ∙ ap (λ u. nat_lt 0 (length (assigned (under_body c n) body)) || u) (others.0 (under_other c n))
            ∙ sym (some_assigned (assigned (under_body c n) body) (assigned (under_other c n) other))),
        ap (λ (p : Bool × Bool). p.1) here ∙ hold_both some (all_full (map (by_stmt full_step) q.0) && all_full (map (by_stmt full_step) o.0)) holds (hold_both (all_full (map (by_stmt full_step) q.0)) (all_full (map (by_stmt full_step) o.0)) inner.1 others.1),
      )
  stmt_full scope (assign w subs None v) x t b e =
      let r = then_ok (array_named scope w.at w.name true (length subs)) _ x t in
      let q = then_ok (each (ix_tree scope) subs) _ x r.2 in
      let o = then_ok (value_tree scope v) _ x q.2 in
      subst (FullOne (assign w subs None v)) (ok_of o.2) ((λ n. sym (more 0)), refl)
  stmt_full scope (assign w subs (Some op) v) x t b e =
      let r = then_ok (array_named scope w.at w.name true (length subs)) _ x t in
      let q = then_ok (each (ix_tree scope) subs) _ x r.2 in
      let o = then_ok (value_tree scope v) _ x q.2 in
      subst (FullOne (assign w subs (Some op) v)) (ok_of o.2) ((λ n. sym (more 0)), refl)
  stmt_full scope (block ls body) x t b e =
      let t' : stmt_tree scope (block [] body) ≡ Ok x = subst (λ z. stmt_tree scope (block z body) ≡ Ok x) b.0 t in
      let q = then_ok (stmts_tree scope body) _ x t' in
      let inner = stmts_full scope body q.0 q.1 b.1 e in
      let here = block_here full_step [] q.0 in
      subst (FullOne (block ls body)) (ok_of q.2) ((λ n. ap (λ (p : Bool × Bool). p.0) here ∙ inner.0 n), ap (λ (p : Bool × Bool). p.1) here ∙ inner.1)

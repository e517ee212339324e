-- The tree of statements whose texts are fine is plain.
use Rattle.std.proofs.Common.{◌≡◌, ℕ, suc, ◌+◌, Bool, true, false, List, [], ◌∷◌, ◌++◌, length, map, Option, Some, None, Ok, refl, sym, ap, subst, ◌∙◌, arith, length-append}
use Rattle.std.specs.Prelude.{not, ◌&&◌, ◌||◌, nat_lt, nat_le}
use Rattle.std.proofs.lemmas.Bool.{false≢true}
use Rattle.std.proofs.lemmas.Bool.Decides.{nat_tests}
use Rattle.affc_ast.specs.declared.tree.ArrayId.{ArrayId}
use Rattle.affc_ast.specs.declared.tree.Ix.{Ix}
use Rattle.affc_ast.specs.declared.tree.Op.{Op}
use Rattle.affc_ast.specs.declared.tree.Val.{Val}
use Rattle.affc_ast.specs.declared.tree.Stmt.{Stmt}
use Rattle.affc_ast.specs.declared.tree.Stmt.TheVariants as stmt
use Rattle.affc_ast.specs.Pieces.{comparisons_of}
use Rattle.affc_ast.specs.Recursion.{by_stmt}
use Rattle.affc_ast.specs.Trace.{Assignment}
use Rattle.affc_ast.proofs.Steps.{for_here, if_here, block_here}
use Rattle.affc_grammar.specs.Draft.{IxDraft, ValueDraft, StmtsDraft, no_stmts, and_stmt, StmtDraft, for_loop, if_cond, assign, block}
use Rattle.affc_grammar.specs.Names.{Scope, each, why_declared, why_repeated, with_number, array_named, ix_tree, cond_tree, value_tree, head_tree, stmts_tree, stmt_tree}
use Rattle.affc_grammar.specs.Limits.{at_if, cond_texts, value_texts, stmts_texts, stmt_texts, cond_past, divisors_past, divisors_past_in, cond_count, Round, under_body, under_other, loads_in, Assigned, assigned, assigned_in, has_assignment, loops_past, loops_past_in, empty_bodies, empty_bodies_in}
use Rattle.affc_trace.proofs.Members.{both_hold, hold_both}
use Rattle.affc_domain.specs.Accesses.{accesses_in, accesses_of}
use Rattle.affc_domain.specs.Plain.{is_plain, all_plain, plain_cond, plain_value, is_upward, plain_assignment, all_of, plain_step}
use Rattle.affc_plain.proofs.Lists.{no_append}
use Rattle.affc_plain.proofs.Forms.{then_ok, not_placed}
use Rattle.affc_plain.proofs.Scopes.{Counts, is_new, with_new_number}
use Rattle.affc_plain.proofs.Expressions.{AllFine, fine_parts, ok_of, allowed_ok, loads_are, ix_plain, list_plain, value_plain}
use Rattle.affc_plain.proofs.Conditions.{IsBareCond, cond_plain, cond_counted}

-- ---- What the grammar and the limits give of statements

-- loops are up to "<" or "<=", conditions have no calls and remainders by at least 1, and blocks have no locals
abbrev mutual
  pub AreBare : StmtsDraft → Type 0
  AreBare no_stmts = Unit {0}
  AreBare (and_stmt ss s) = AreBare ss × IsBare s

  pub IsBare : StmtDraft → Type 0
  IsBare (for_loop h body) = (is_upward h.rel ≡ true) × AreBare body
  IsBare (if_cond at c body other) = IsBareCond c × AreBare body × AreBare other
  IsBare (assign w subs op v) = Unit {0}
  IsBare (block ls body) = (ls ≡ []) × AreBare body

-- an assignment with at most 16 accesses and 32 comparisons round it
pub record IsWithin (a : Assigned) : Type 0 where
  pub accesses : nat_le a.accesses 16 ≡ true
  pub comparisons : nat_le a.round.comparisons 32 ≡ true

abbrev pub AllWithin : List Assigned → Type 0
AllWithin [] = Unit {0}
AllWithin (a ∷ as') = IsWithin a × AllWithin as'

within_parts : (xs ys : List Assigned) → AllWithin (xs ++ ys) → AllWithin xs × AllWithin ys
within_parts [] ys h = (tt, h)
within_parts (x ∷ xs) ys h = let r = within_parts xs ys h.1 in ((h.0, r.0), r.1)

-- ---- Statements

-- fewer than the limit, where a loop holds an assignment
few : (k at : ℕ) (holds : Bool) → at_if (nat_le 6 k && holds) at ≡ [] → at_if (not holds) at ≡ [] → nat_lt k 6 ≡ true
few k at true e f = let g : (nat_le 6 k && true) ≡ false = not_placed (nat_le 6 k && true) at e in less (nat_le 6 k) refl g
  where
    less : (t : Bool) → nat_le 6 k ≡ t → (nat_le 6 k && true) ≡ false → nat_lt k 6 ≡ true
    less true h g = absurd (false≢true (sym g ∙ ap (λ u. u && true) h))
    less false h g = grind (arith, nat_tests)
few k at false e f = absurd (cc)

module _ (m : ℕ) where
  abbrev pub PlainAt : (k c : ℕ) → List Stmt → Type 0
  PlainAt k c xs = all_of (map (by_stmt (plain_step m)) xs) k c ≡ true

  abbrev pub PlainOne : (k c : ℕ) → Stmt → Type 0
  PlainOne k c x = by_stmt (plain_step m) x k c ≡ true

  plain_end : (k c : ℕ) (xs : List Stmt) (x : Stmt) → PlainAt k c xs → PlainOne k c x → PlainAt k c (xs ++ x ∷ [])
  plain_end k c [] x h g = hold_both (by_stmt (plain_step m) x k c) true g refl
  plain_end k c (y ∷ xs) x h g =
      let p = both_hold (by_stmt (plain_step m) y k c) (all_of (map (by_stmt (plain_step m)) xs) k c) h in
      hold_both (by_stmt (plain_step m) y k c) (all_of (map (by_stmt (plain_step m)) (xs ++ x ∷ [])) k c) p.0 (plain_end k c xs x p.1 g)

  -- an assignment has as many accesses as its text
  count_plain : (id : ArrayId) (subs : List Ix) (x : Val) (n : ℕ) → length (accesses_in x) ≡ n → nat_le (n + 1) 16 ≡ true → nat_le (length (accesses_of (record { op = None; array = id; subs = subs; value = x }))) 16 ≡ true
  count_plain id subs x n e h = ap (λ k. nat_le k 16) (length-append (accesses_in x) ((id, subs) ∷ []) ∙ ap (λ k. k + 1) e) ∙ h

  count_own : (op : Op) (id : ArrayId) (subs : List Ix) (x : Val) (n : ℕ) → length (accesses_in x) ≡ n → nat_le (n + 2) 16 ≡ true → nat_le (length (accesses_of (record { op = Some op; array = id; subs = subs; value = x }))) 16 ≡ true
  count_own op id subs x n e h = ap (λ k. nat_le (suc k) 16) (length-append (accesses_in x) ((id, subs) ∷ []) ∙ ap (λ k. k + 1) e) ∙ ap (λ k. nat_le k 16) (two n) ∙ h
    where
      two : (n : ℕ) → suc (n + 1) ≡ n + 2
      two n = omega arith

  assign_plain : (k c : ℕ) (scope : Scope) → Counts scope (m + k) → (op : Option Op) (id : ArrayId) (subs : List IxDraft) (v : ValueDraft) (es : List Ix) (x : Val)
      → each (ix_tree scope) subs ≡ Ok es → value_tree scope v ≡ Ok x → AllFine (subs ++ value_texts v) → nat_le c 32 ≡ true
      → nat_le (length (accesses_of (record { op = op; array = id; subs = es; value = x }))) 16 ≡ true → PlainOne k c (stmt.Assign op id es x)
  assign_plain k c scope counts op id subs v es x t u f h g =
      let p = fine_parts subs (value_texts v) f in
      let a : Assignment = record { op = op; array = id; subs = es; value = x } in
      hold_both (nat_le c 32) (plain_assignment (m + k) a) h (hold_both (nat_le (length (accesses_of a)) 16) (all_plain (m + k) es && plain_value x (m + k)) g
      (hold_both (all_plain (m + k) es) (plain_value x (m + k)) (list_plain scope (m + k) counts.numbers subs es t p.0) (value_plain scope (m + k) counts.numbers v x u p.1)))

  mutual
    pub stmts_plain : (k : ℕ) (c : Round) (scope : Scope) → Counts scope (m + k) → (d : StmtsDraft) (xs : List Stmt) → stmts_tree scope d ≡ Ok xs → AllFine (stmts_texts d) → AreBare d
        → divisors_past 65536 d ≡ [] → loops_past 6 k d ≡ [] → empty_bodies d ≡ [] → AllWithin (assigned c d) → PlainAt k c.comparisons xs
    stmts_plain k c scope counts no_stmts xs t f b v l e w = subst (PlainAt k c.comparisons) (ok_of t) refl
    stmts_plain k c scope counts (and_stmt ss s) xs t f b v l e w =
        let r = then_ok (stmts_tree scope ss) _ xs t in
        let q = then_ok (stmt_tree scope s) _ xs r.2 in
        let g = fine_parts (stmts_texts ss) (stmt_texts s) f in
        let vp = no_append (divisors_past 65536 ss) (divisors_past_in 65536 s) v in
        let lp = no_append (loops_past 6 k ss) (loops_past_in 6 k s) l in
        let ep = no_append (empty_bodies ss) (empty_bodies_in s) e in
        let wp = within_parts (assigned c ss) (assigned_in c s) w in
        let first = stmts_plain k c scope counts ss r.0 r.1 g.0 b.0 vp.0 lp.0 ep.0 wp.0 in
        let last = stmt_plain k c scope counts s q.0 q.1 g.1 b.1 vp.1 lp.1 ep.1 wp.1 in
        subst (PlainAt k c.comparisons) (ok_of q.2) (plain_end k c.comparisons r.0 q.0 first last)

    pub stmt_plain : (k : ℕ) (c : Round) (scope : Scope) → Counts scope (m + k) → (d : StmtDraft) (x : Stmt) → stmt_tree scope d ≡ Ok x → AllFine (stmt_texts d) → IsBare d
        → divisors_past_in 65536 d ≡ [] → loops_past_in 6 k d ≡ [] → empty_bodies_in d ≡ [] → AllWithin (assigned_in c d) → PlainOne k c.comparisons x
    stmt_plain k c scope counts (for_loop h body) x t f b v l e w =
        let inside : Scope = with_number true scope h.iterator.name in
        let r = then_ok (head_tree scope h) _ x t in
        let q = then_ok (stmts_tree inside body) _ x r.2 in
        let n = allowed_ok (why_declared scope true h.iterator.name) h.iterator.at _ r.0 r.1 in
        let low = then_ok (ix_tree scope h.low) _ r.0 n.1 in
        let tested = allowed_ok (why_repeated scope h.iterator.name h.tested.name) h.tested.at _ r.0 low.2 in
        let high = then_ok (ix_tree scope h.high) _ r.0 tested.1 in
        let stepped = allowed_ok (why_repeated scope h.iterator.name h.stepped.name) h.stepped.at _ r.0 high.2 in
        let bounds : ◌≡◌ {A = Ix × Ix} (low.0, high.0) r.0 = ok_of stepped.1 in
        let lp = no_append (at_if (nat_le 6 k && has_assignment body) h.at) (loops_past 6 (k + 1) body) l in
        let ep = no_append (at_if (not (has_assignment body)) h.at) (empty_bodies body) e in
        let room : nat_lt k 6 ≡ true = few k h.at (has_assignment body) lp.0 ep.0 in
        let up : k + 1 ≡ suc k = omega arith in
        let more : suc (m + k) ≡ m + suc k = omega arith in
        let next : Counts inside (m + suc k) = subst (Counts inside) more (with_new_number scope (m + k) true h.iterator.name counts (is_new scope true h.iterator.name n.0)) in
        let inner = stmts_plain (suc k) c inside next body q.0 q.1 f.1.1 b.1 v (subst (λ j. loops_past 6 j body ≡ []) up lp.1) ep.1 w in
        let lows : is_plain (m + k) r.0.0 ≡ true = ap (λ (z : Ix × Ix). is_plain (m + k) z.0) (sym bounds) ∙ ix_plain scope (m + k) counts.numbers h.low low.0 low.1 f.0 in
        let highs : is_plain (m + k) r.0.1 ≡ true = ap (λ (z : Ix × Ix). is_plain (m + k) z.1) (sym bounds) ∙ ix_plain scope (m + k) counts.numbers h.high high.0 high.1 f.1.0 in
        subst (PlainOne k c.comparisons) (ok_of q.2)
        (ap (λ g. g k c.comparisons) (for_here (plain_step m) h.iterator.name r.0.0 h.rel r.0.1 q.0)
        ∙ hold_both (nat_lt k 6) _ room (hold_both (is_upward h.rel) _ b.0 (hold_both (is_plain (m + k) r.0.0) _ lows (hold_both (is_plain (m + k) r.0.1) _ highs inner))))
    stmt_plain k c scope counts (if_cond at i body other) x t f b v l e w =
        let r = then_ok (cond_tree scope i) _ x t in
        let q = then_ok (stmts_tree scope body) _ x r.2 in
        let o = then_ok (stmts_tree scope other) _ x q.2 in
        let g1 = fine_parts (cond_texts i ++ stmts_texts body) (stmts_texts other) f in
        let g = fine_parts (cond_texts i) (stmts_texts body) g1.0 in
        let vp1 = no_append (cond_past 65536 i ++ divisors_past 65536 body) (divisors_past 65536 other) v in
        let vp = no_append (cond_past 65536 i) (divisors_past 65536 body) vp1.0 in
        let lp = no_append (loops_past 6 k body) (loops_past 6 k other) l in
        let ep1 = no_append (at_if (not (has_assignment body || has_assignment other)) at ++ empty_bodies body) (empty_bodies other) e in
        let ep = no_append (at_if (not (has_assignment body || has_assignment other)) at) (empty_bodies body) ep1.0 in
        let wp = within_parts (assigned (under_body i c) body) (assigned (under_other i c) other) w in
        let inner : PlainAt k (c.comparisons + cond_count i) q.0 = stmts_plain k (under_body i c) scope counts body q.0 q.1 g.1 b.1 vp.1 lp.0 ep.1 wp.0 in
        let others : PlainAt k (c.comparisons + cond_count i) o.0 = stmts_plain k (under_other i c) scope counts other o.0 o.1 g1.1 b.2 vp1.1 lp.1 ep1.1 wp.1 in
        let more : c.comparisons + cond_count i ≡ c.comparisons + comparisons_of r.0 = ap (λ j. c.comparisons + j) (sym (cond_counted scope i r.0 r.1)) in
        subst (PlainOne k c.comparisons) (ok_of o.2)
        (ap (λ g. g k c.comparisons) (if_here (plain_step m) r.0 q.0 o.0)
        ∙ hold_both (plain_cond (m + k) r.0) _ (cond_plain scope (m + k) counts.numbers i r.0 r.1 g.0 b.0 vp.0)
        (hold_both (all_of (map (by_stmt (plain_step m)) q.0) k (c.comparisons + comparisons_of r.0)) _ (subst (λ j. PlainAt k j q.0) more inner) (subst (λ j. PlainAt k j o.0) more others)))
    stmt_plain k c scope counts (assign w subs None v) x t f b y l e h =
        let r = then_ok (array_named scope w.at w.name true (length subs)) _ x t in
        let q = then_ok (each (ix_tree scope) subs) _ x r.2 in
        let o = then_ok (value_tree scope v) _ x q.2 in
        subst (PlainOne k c.comparisons) (ok_of o.2)
        (assign_plain k c.comparisons scope counts None r.0 subs v q.0 o.0 q.1 o.1 f h.0.comparisons (count_plain r.0 q.0 o.0 (loads_in v) (loads_are scope v o.0 o.1) h.0.accesses))
    stmt_plain k c scope counts (assign w subs (Some op) v) x t f b y l e h =
        let r = then_ok (array_named scope w.at w.name true (length subs)) _ x t in
        let q = then_ok (each (ix_tree scope) subs) _ x r.2 in
        let o = then_ok (value_tree scope v) _ x q.2 in
        subst (PlainOne k c.comparisons) (ok_of o.2)
        (assign_plain k c.comparisons scope counts (Some op) r.0 subs v q.0 o.0 q.1 o.1 f h.0.comparisons (count_own op r.0 q.0 o.0 (loads_in v) (loads_are scope v o.0 o.1) h.0.accesses))
    stmt_plain k c scope counts (block ls body) x t f b v l e w =
        let t' : stmt_tree scope (block [] body) ≡ Ok x = subst (λ z. stmt_tree scope (block z body) ≡ Ok x) b.0 t in
        let f' : AllFine (stmt_texts (block [] body)) = subst (λ z. AllFine (stmt_texts (block z body))) b.0 f in
        let q = then_ok (stmts_tree scope body) _ x t' in
        let inner = stmts_plain k c scope counts body q.0 q.1 f' b.1 v l e w in
        subst (PlainOne k c.comparisons) (ok_of q.2) (ap (λ g. g k c.comparisons) (block_here (plain_step m) [] q.0) ∙ inner)

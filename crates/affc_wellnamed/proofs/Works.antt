-- The limits on statements, arrays and lines, by the tree that a text is read as.
use Rattle.std.proofs.Common.{◌≡◌, ◌⊎◌, inl, inr, ℕ, zero, suc, ◌+◌, ◌<◌, ◌≤◌, ◌&&◌, ◌||◌, Bool, true, false, not, nat_le, nat_lt, max, List, [], ◌∷◌, ◌++◌, length, filter, Option, Some, None, Ok, ℤ, refl, sym, ap, subst, ◌∙◌, arith, length-append, if◌then◌else◌}
use Rattle.std.specs.List.{list_any, list_all}
use Rattle.std.proofs.lemmas.Bool.{and_parts, and_from, false≢true, ltb-true, lt-ltb, le-ltb, leb-true, le-leb}
use Rattle.std.proofs.lemmas.List.Folds.{list_any-append}
use Rattle.std.proofs.lemmas.List.Sums.{sum_by-cons}
use Rattle.affc_lex.specs.Bytes.{same}
use Rattle.affc_ast.specs.declared.tree.Op.{Op}
use Rattle.affc_ast.specs.declared.tree.Rel.{Rel}
use Rattle.affc_ast.specs.declared.tree.Ix.{Ix}
use Rattle.affc_ast.specs.declared.tree.Compare.{Compare}
use Rattle.affc_ast.specs.declared.tree.Cond.{Cond}
use Rattle.affc_ast.specs.declared.tree.Val.{Val}
use Rattle.affc_ast.specs.declared.tree.Stmt.{Stmt}
use Rattle.affc_ast.specs.declared.tree.Stmt.TheVariants.{For, If}
use Rattle.affc_ast.specs.declared.tree.Decl.{Decl}
use Rattle.affc_ast.specs.declared.tree.Param.{Param}
use Rattle.affc_grammar.specs.Draft.{ValueDraft, load, constant, cast, complement, binary, shift, StmtsDraft, no_stmts, and_stmt, StmtDraft, for_loop, if_cond, assign, block, DeclDraft, ParamDraft, number_param, array_param, PragmaDraft, range, context}
use Rattle.affc_grammar.specs.Names.{Scope, each, array_named, why_declared, with_number, ix_tree, compare_tree, value_tree, cond_tree, locals_tree, head_tree, stmts_tree, stmt_tree, thing_of, why_ranged, decl_tree, range_of, param_tree, params_tree, temps_tree, with_param, with_array, pragmas_tree}
use Rattle.affc_grammar.specs.Limits.{Round, no_round, under_body, under_other, Assigned, assigned, assigned_in, loads_in, loops_past, loops_past_in, at_if, number_words, param_decls, is_range, ranges_past, contexts_past}
use Rattle.affc_wellnamed.specs.declared.work.Work.{Work}
use Rattle.affc_wellnamed.specs.Known.{is_number, number_count}
use Rattle.affc_wellnamed.specs.Shape.{saturated, plus}
use Rattle.affc_wellnamed.specs.Work.{load_step, loads, own_accesses, no_work, one_work, both, looped, stmt_step, work, stmts_behind, has_few, param_fits}
use Rattle.affc_ast.proofs.Steps.{for_here, if_here, block_here, not_here, bin_here, shift_here}
use Rattle.affc_cprint.proofs.Sees.{ok_of, both_ok, allowed_ok}
use Rattle.affc_cprint.proofs.ReadBackValues.{each_length}
use Rattle.affc_cprint.proofs.ReadBackParams.{some_range}
use Rattle.affc_wellnamed.proofs.Counts.{not_below}
use Rattle.affc_wellnamed.proofs.ShapeParts.{larger_is}

pub if_arm : (x : Stmt) (c : Cond) (body slice other these : List Stmt) (n m b d r : Work) → x ≡ If c body other → slice ≡ body → these ≡ other
    → n ≡ no_work → b ≡ stmts_behind n slice → m ≡ no_work → d ≡ stmts_behind m these → r ≡ both b d → r ≡ work x
if_arm x c body slice other these n m b d r is same those p q s t u =
    u ∙ ap (λ z. both z d) (q ∙ ap (λ z. stmts_behind z slice) p ∙ ap (stmts_behind no_work) same) ∙ ap (both (stmts_behind no_work body)) (t ∙ ap (λ z. stmts_behind z these) s ∙ ap (stmts_behind no_work) those)
    ∙ sym (ap work is ∙ if_here stmt_step c body other)

pub for_arm : (x : Stmt) (iter : List ℕ) (low : Ix) (rel : Rel) (high : Ix) (body slice : List Stmt) (n b r : Work) → x ≡ For iter low rel high body → slice ≡ body → n ≡ no_work → b ≡ stmts_behind n slice → r ≡ looped b → r ≡ work x
for_arm x iter low rel high body slice n b r is same p q t =
    t ∙ ap looped (q ∙ ap (λ z. stmts_behind z slice) p ∙ ap (stmts_behind no_work) same) ∙ sym (ap work is ∙ for_here stmt_step iter low rel high body)

-- ---- Loads

loads_are : (scope : Scope) (d : ValueDraft) (v : Val) → value_tree scope d ≡ Ok v → loads v ≡ saturated (loads_in d)
loads_are scope (load at w subs) v e =
    let p = both_ok (array_named scope at w false (length subs)) _ v e in
    let q = both_ok (each (ix_tree scope) subs) _ v p.2 in
    sym (ap loads (ok_of q.2))
loads_are scope (constant n) v e = sym (ap loads (ok_of e))
loads_are scope (cast a) v e = let p = both_ok (ix_tree scope a) _ v e in sym (ap loads (ok_of p.2))
loads_are scope (complement a) v e =
    let p = both_ok (value_tree scope a) _ v e in
    sym (ap loads (ok_of p.2)) ∙ not_here load_step p.0 ∙ loads_are scope a p.0 p.1
loads_are scope (binary op a b) v e =
    let p = both_ok (value_tree scope a) _ v e in
    let q = both_ok (value_tree scope b) _ v p.2 in
    let f = loads_are scope a p.0 p.1 in
    let g = loads_are scope b q.0 q.1 in
    let sum : plus (loads p.0) (loads q.0) ≡ saturated (loads_in a + loads_in b) = omega (arith, f, g) in
    sym (ap loads (ok_of q.2)) ∙ bin_here load_step op p.0 q.0 ∙ sum
loads_are scope (shift left a by) v e =
    let p = both_ok (value_tree scope a) _ v e in
    sym (ap loads (ok_of p.2)) ∙ shift_here load_step left p.0 by ∙ loads_are scope a p.0 p.1

-- ---- Statements

abbrev pub many : Assigned → Bool
many a = nat_lt 16 a.accesses

pub record Busy (as' : Round → List Assigned) (places : (limit n : ℕ) → List ℕ) (w : Work) : Type 0 where
  pub statements : (r : Round) → w.statements ≡ saturated (length (as' r))
  pub crowded : (r : Round) → w.crowded ≡ list_any many (as' r)
  pub nest : ℕ
  pub loops : w.loops ≡ saturated nest
  pub idle : length (as' no_round) ≡ 0 → (limit n : ℕ) → places limit n ≡ []
  pub idle_nest : length (as' no_round) ≡ 0 → nest ≡ 0
  pub within : (limit n : ℕ) → n ≤ limit → places limit n ≡ [] → n + nest ≤ limit
  pub beyond : (limit n : ℕ) → n + nest ≤ limit → places limit n ≡ []

none_of_both : {A : Type 0} (xs ys : List A) → xs ++ ys ≡ [] → (xs ≡ []) × (ys ≡ [])
none_of_both [] ys e = (refl, e)
none_of_both (x ∷ xs) ys e = absurd (cc)

busy_none : Busy (λ n. []) (λ limit n. []) no_work
busy_none = record {
  statements = λ n. refl;
  crowded = λ n. refl;
  nest = 0;
  loops = refl;
  idle = λ e limit n. refl;
  idle_nest = λ e. refl;
  within = λ limit n le e. omega (arith, le);
  beyond = λ limit n le. refl;
}

busy_both : (as' bs : Round → List Assigned) (ps qs : (limit n : ℕ) → List ℕ) (v w : Work) → Busy as' ps v → Busy bs qs w → Busy (λ n. as' n ++ bs n) (λ limit n. ps limit n ++ qs limit n) (both v w)
busy_both as' bs ps qs v w p q = record {
  statements = λ n. let a = p.statements n in let b = q.statements n in let l = length-append (as' n) (bs n) in omega (arith, a, b, l);
  crowded = λ n. ap (λ z. z || w.crowded) (p.crowded n) ∙ ap (λ z. list_any many (as' n) || z) (q.crowded n) ∙ sym (list_any-append many (as' n) (bs n));
  nest = max p.nest q.nest;
  loops = let a = p.loops in let b = q.loops in let l = larger_is v.loops w.loops in omega (arith, a, b, l);
  idle = λ e limit n. let l = length-append (as' no_round) (bs no_round) in let left : length (as' no_round) ≡ 0 = omega (arith, e, l) in let right : length (bs no_round) ≡ 0 = omega (arith, e, l) in
      ap (λ z. z ++ qs limit n) (p.idle left limit n) ∙ q.idle right limit n;
  idle_nest = λ e. let l = length-append (as' no_round) (bs no_round) in let left : length (as' no_round) ≡ 0 = omega (arith, e, l) in let right : length (bs no_round) ≡ 0 = omega (arith, e, l) in
      let a = p.idle_nest left in let b = q.idle_nest right in omega (arith, a, b);
  within = λ limit n le e. let s = none_of_both (ps limit n) (qs limit n) e in let a = p.within limit n le s.0 in let b = q.within limit n le s.1 in omega (arith, a, b);
  beyond = λ limit n le. let a : n + p.nest ≤ limit = omega (arith, le) in let b : n + q.nest ≤ limit = omega (arith, le) in ap (λ z. z ++ qs limit n) (p.beyond limit n a) ∙ q.beyond limit n b;
}

busy_loop : (at : ℕ) (as' : Round → List Assigned) (ps : (limit n : ℕ) → List ℕ) (w : Work) → Busy as' ps w → Busy as' (λ limit n. at_if (nat_le limit n && nat_lt 0 (length (as' no_round))) at ++ ps limit (n + 1)) (looped w)
busy_loop at as' ps w b = of (length (as' no_round)) refl
  where
    of : (k : ℕ) → length (as' no_round) ≡ k → Busy as' (λ limit n. at_if (nat_le limit n && nat_lt 0 (length (as' no_round))) at ++ ps limit (n + 1)) (looped w)
    of zero e =
        let none : w.statements ≡ 0 = b.statements no_round ∙ ap saturated e in
        let empty : (limit n : ℕ) → at_if (nat_le limit n && nat_lt 0 (length (as' no_round))) at ++ ps limit (n + 1) ≡ [] =
        λ limit n. ap (λ m. at_if (nat_le limit n && nat_lt 0 m) at ++ ps limit (n + 1)) e ∙ ap (λ z. at_if (nat_le limit n && z) at ++ ps limit (n + 1)) (le-ltb 0 0 (omega arith)) ∙ ap (λ z. at_if z at ++ ps limit (n + 1)) (and_off (nat_le limit n)) ∙ b.idle e limit (n + 1) in
        record {
          statements = b.statements;
          crowded = b.crowded;
          nest = 0;
          loops = ap (λ m. if nat_lt 0 m then plus w.loops 1 else 0) none ∙ ap (λ z. if z then plus w.loops 1 else 0) (le-ltb 0 0 (omega arith));
          idle = λ q limit n. empty limit n;
          idle_nest = λ q. refl;
          within = λ limit n le q. omega (arith, le);
          beyond = λ limit n le. empty limit n;
        }
      where
        and_off : (z : Bool) → (z && false) ≡ false
        and_off true = refl
        and_off false = refl
    of (suc k) e =
        let s = b.statements no_round in
        let some : 0 < w.statements = omega (arith, s, e) in
        let has : nat_lt 0 (length (as' no_round)) ≡ true = lt-ltb 0 (length (as' no_round)) (omega (arith, e)) in
        let l = b.loops in
        let sum : plus w.loops 1 ≡ saturated (b.nest + 1) = omega (arith, l) in
        record {
          statements = b.statements;
          crowded = b.crowded;
          nest = b.nest + 1;
          loops = ap (λ z. if z then plus w.loops 1 else 0) (lt-ltb 0 w.statements some) ∙ sum;
          idle = λ q limit n. absurd (omega (arith, q, e));
          idle_nest = λ q. absurd (omega (arith, q, e));
          within = λ limit n le q.
              let parts = none_of_both (at_if (nat_le limit n && nat_lt 0 (length (as' no_round))) at) (ps limit (n + 1)) q in
              let below : nat_le limit n ≡ false = off_at (nat_le limit n) (nat_lt 0 (length (as' no_round))) has parts.0 in
              let more : n + 1 ≤ limit = strict limit n below in
              let rest = b.within limit (n + 1) more parts.1 in omega (arith, rest);
          beyond = λ limit n le.
              let below : nat_le limit n ≡ false = not_le limit n (omega (arith, le)) in
              ap (λ z. at_if (z && nat_lt 0 (length (as' no_round))) at ++ ps limit (n + 1)) below ∙ b.beyond limit (n + 1) (omega (arith, le));
        }
      where
        off_at : (x y : Bool) → y ≡ true → at_if (x && y) at ≡ [] → x ≡ false
        off_at true true h q = absurd (cc)
        off_at true false h q = absurd (false≢true h)
        off_at false y h q = refl

        not_le : (a c : ℕ) → c < a → nat_le a c ≡ false
        not_le a c h = of_bool (nat_le a c) refl
          where
            of_bool : (z : Bool) → nat_le a c ≡ z → z ≡ false
            of_bool true q = absurd (omega (arith, h, leb-true a c q))
            of_bool false q = refl

        strict : (a c : ℕ) → nat_le a c ≡ false → c + 1 ≤ a
        strict a c h = of_order (order a c)
          where
            order : (a c : ℕ) → (a ≤ c) ⊎ (c + 1 ≤ a)
            order zero c = inl (omega arith)
            order (suc a) zero = inr (omega arith)
            order (suc a) (suc c) = elim (order a c) [ inl q ↦ inl (omega (arith, q)) | inr q ↦ inr (omega (arith, q)) ]

            of_order : (a ≤ c) ⊎ (c + 1 ≤ a) → c + 1 ≤ a
            of_order (inl q) = absurd (false≢true (sym h ∙ le-leb a c q))
            of_order (inr q) = q

-- under a condition
busy_under : (g : Round → Round) (as' : Round → List Assigned) (ps : (limit n : ℕ) → List ℕ) (w : Work) → Busy as' ps w → Busy (λ r. as' (g r)) ps w
busy_under g as' ps w b =
    let none : length (as' (g no_round)) ≡ 0 → length (as' no_round) ≡ 0 = λ e. let p = b.statements no_round in let q = b.statements (g no_round) in omega (arith, e, p, q) in
    record {
      statements = λ r. b.statements (g r);
      crowded = λ r. b.crowded (g r);
      nest = b.nest;
      loops = b.loops;
      idle = λ e. b.idle (none e);
      idle_nest = λ e. b.idle_nest (none e);
      within = b.within;
      beyond = b.beyond;
    }

many_so : (n m k : ℕ) → n ≡ saturated m → nat_lt 16 (plus n k) ≡ nat_lt 16 (m + k)
many_so n m k e = of (nat_lt 16 (m + k)) refl
  where
    of : (z : Bool) → nat_lt 16 (m + k) ≡ z → nat_lt 16 (plus n k) ≡ z
    of true q = let h = ltb-true 16 (m + k) q in lt-ltb 16 (plus n k) (omega (arith, e, h))
    of false q = let h = not_below 16 (m + k) q in le-ltb 16 (plus n k) (omega (arith, e, h))

or_off : (z : Bool) → (z || false) ≡ z
or_off true = refl
or_off false = refl

busy_assign : (at : ℕ) (o : Option Op) (v : ValueDraft) (loaded : ℕ) → loaded ≡ saturated (loads_in v) → Busy (λ r. record { at = at; accesses = loads_in v + own_accesses o; round = r } ∷ []) (λ limit n. []) (one_work o loaded)
busy_assign at o v loaded e = record {
  statements = λ n. refl;
  crowded = λ n. many_so loaded (loads_in v) (own_accesses o) e ∙ sym (or_off (nat_lt 16 (loads_in v + own_accesses o)));
  nest = 0;
  loops = refl;
  idle = λ q limit n. refl;
  idle_nest = λ q. refl;
  within = λ limit n le q. omega (arith, le);
  beyond = λ limit n le. refl;
}

one_more : (a : Work) (xs : List Stmt) (x : Stmt) → stmts_behind a (xs ++ x ∷ []) ≡ both (stmts_behind a xs) (work x)
one_more a [] x = refl
one_more a (y ∷ xs) x = one_more (both a (work y)) xs x

mutual
  pub stmts_busy : (scope : Scope) (d : StmtsDraft) (xs : List Stmt) → stmts_tree scope d ≡ Ok xs → Busy (λ r. assigned r d) (λ limit n. loops_past limit n d) (stmts_behind no_work xs)
  stmts_busy scope no_stmts xs e = subst (λ l. Busy (λ n. []) (λ limit n. []) (stmts_behind no_work l)) (ok_of e) busy_none
  stmts_busy scope (and_stmt ss s) xs e =
      let p = both_ok (stmts_tree scope ss) _ xs e in
      let q = both_ok (stmt_tree scope s) _ xs p.2 in
      subst (Busy (λ n. assigned n ss ++ assigned_in n s) (λ limit n. loops_past limit n ss ++ loops_past_in limit n s)) (sym (one_more no_work p.0 q.0) ∙ ap (stmts_behind no_work) (ok_of q.2))
      (busy_both (λ n. assigned n ss) (λ n. assigned_in n s) (λ limit n. loops_past limit n ss) (λ limit n. loops_past_in limit n s) (stmts_behind no_work p.0) (work q.0) (stmts_busy scope ss p.0 p.1) (stmt_busy scope s q.0 q.1))

  stmt_busy : (scope : Scope) (d : StmtDraft) (x : Stmt) → stmt_tree scope d ≡ Ok x → Busy (λ n. assigned_in n d) (λ limit n. loops_past_in limit n d) (work x)
  stmt_busy scope (for_loop h body) x e =
      let p = both_ok (head_tree scope h) _ x e in
      let q = both_ok (stmts_tree (with_number true scope h.iterator.name) body) _ x p.2 in
      subst (Busy (λ n. assigned n body) (λ limit n. loops_past_in limit n (for_loop h body))) (sym (for_here stmt_step h.iterator.name p.0.0 h.rel p.0.1 q.0) ∙ ap work (ok_of q.2))
      (busy_loop h.at (λ n. assigned n body) (λ limit n. loops_past limit n body) (stmts_behind no_work q.0) (stmts_busy (with_number true scope h.iterator.name) body q.0 q.1))
  stmt_busy scope (if_cond at c body other) x e =
      let p = both_ok (cond_tree scope c) _ x e in
      let q = both_ok (stmts_tree scope body) _ x p.2 in
      let s = both_ok (stmts_tree scope other) _ x q.2 in
      subst (Busy (λ r. assigned (under_body c r) body ++ assigned (under_other c r) other) (λ limit n. loops_past limit n body ++ loops_past limit n other)) (sym (if_here stmt_step p.0 q.0 s.0) ∙ ap work (ok_of s.2))
      (busy_both (λ r. assigned (under_body c r) body) (λ r. assigned (under_other c r) other) (λ limit n. loops_past limit n body) (λ limit n. loops_past limit n other) (stmts_behind no_work q.0) (stmts_behind no_work s.0)
      (busy_under (under_body c) (λ r. assigned r body) (λ limit n. loops_past limit n body) (stmts_behind no_work q.0) (stmts_busy scope body q.0 q.1))
      (busy_under (under_other c) (λ r. assigned r other) (λ limit n. loops_past limit n other) (stmts_behind no_work s.0) (stmts_busy scope other s.0 s.1)))
  stmt_busy scope (assign w subs None v) x e =
      let p = both_ok (array_named scope w.at w.name true (length subs)) _ x e in
      let q = both_ok (each (ix_tree scope) subs) _ x p.2 in
      let r = both_ok (value_tree scope v) _ x q.2 in
      subst (Busy (λ n. assigned_in n (assign w subs None v)) (λ limit n. [])) (ap work (ok_of r.2)) (busy_assign w.at None v (loads r.0) (loads_are scope v r.0 r.1))
  stmt_busy scope (assign w subs (Some o) v) x e =
      let p = both_ok (array_named scope w.at w.name true (length subs)) _ x e in
      let q = both_ok (each (ix_tree scope) subs) _ x p.2 in
      let r = both_ok (value_tree scope v) _ x q.2 in
      subst (Busy (λ n. assigned_in n (assign w subs (Some o) v)) (λ limit n. [])) (ap work (ok_of r.2)) (busy_assign w.at (Some o) v (loads r.0) (loads_are scope v r.0 r.1))
  stmt_busy scope (block ls body) x e =
      let p = both_ok (locals_tree scope ls) _ x e in
      let q = both_ok (stmts_tree p.0.1 body) _ x p.2 in
      subst (Busy (λ n. assigned n body) (λ limit n. loops_past limit n body)) (sym (block_here stmt_step p.0.0 q.0) ∙ ap work (ok_of q.2)) (stmts_busy p.0.1 body q.0 q.1)

-- ---- Lines before the function

pub contexts_within : (inside : Scope) (earlier : List (List ℕ)) (ps : List PragmaDraft) (xs : List Compare) (n : ℕ) → pragmas_tree inside earlier ps ≡ Ok xs → n + length xs ≤ 16 → contexts_past n ps ≡ []
contexts_within inside earlier [] xs n e le = refl
contexts_within inside earlier (range w low_at low high ∷ ps) xs n e le = contexts_within inside (w.name ∷ earlier) ps xs n (allowed_ok (why_ranged inside earlier w.name (thing_of inside w.name)) w.at _ xs e).1 le
contexts_within inside earlier (context at cs ∷ ps) xs n e le =
    let p = both_ok (each (compare_tree inside) cs) _ xs e in
    let q = both_ok (pragmas_tree inside earlier ps) _ xs p.2 in
    let a = each_length (compare_tree inside) cs p.0 p.1 in
    let b = length-append p.0 q.0 in
    let c = ap length (ok_of q.2) in
    ap (λ z. at_if z at ++ contexts_past (n + length cs) ps) (le-ltb 16 (n + length cs) (omega (arith, a, b, c, le))) ∙ contexts_within inside earlier ps q.0 (n + length cs) q.1 (omega (arith, a, b, c, le))

off_if : (z : Bool) (at : ℕ) → at_if z at ≡ [] → z ≡ false
off_if true at e = absurd (cc)
off_if false at e = refl

pub contexts_few : (inside : Scope) (earlier : List (List ℕ)) (ps : List PragmaDraft) (xs : List Compare) (n : ℕ) → n ≤ 16 → pragmas_tree inside earlier ps ≡ Ok xs → contexts_past n ps ≡ [] → n + length xs ≤ 16
contexts_few inside earlier [] xs n le e f = let c = ap length (ok_of e) in omega (arith, le, c)
contexts_few inside earlier (range w low_at low high ∷ ps) xs n le e f = contexts_few inside (w.name ∷ earlier) ps xs n le (allowed_ok (why_ranged inside earlier w.name (thing_of inside w.name)) w.at _ xs e).1 f
contexts_few inside earlier (context at cs ∷ ps) xs n le e f =
    let p = both_ok (each (compare_tree inside) cs) _ xs e in
    let q = both_ok (pragmas_tree inside earlier ps) _ xs p.2 in
    let a = each_length (compare_tree inside) cs p.0 p.1 in
    let b = length-append p.0 q.0 in
    let c = ap length (ok_of q.2) in
    let s = none_of_both (at_if (nat_lt 16 (n + length cs)) at) (contexts_past (n + length cs) ps) f in
    let here = not_below 16 (n + length cs) (off_if (nat_lt 16 (n + length cs)) at s.0) in
    let more = contexts_few inside earlier ps q.0 (n + length cs) here q.1 s.1 in
    omega (arith, a, b, c, more)

-- ---- Declarations

abbrev pub wide : DeclDraft → Bool
wide d = nat_lt 4 (length d.extents)

few_so : (n : ℕ) → nat_le n 4 ≡ true → nat_lt 4 n ≡ false
few_so n h = le-ltb 4 n (leb-true n 4 h)

so_few : (n : ℕ) → nat_lt 4 n ≡ false → nat_le n 4 ≡ true
so_few n h = le-leb n 4 (not_below 4 n h)

decl_long : (scope : Scope) (q : DeclDraft) (d : Decl) → decl_tree scope q ≡ Ok d → length q.extents ≡ length d.extents
decl_long scope q d e =
    let a = allowed_ok (why_declared scope false q.word.name) q.word.at _ d e in
    let p = both_ok (each (ix_tree scope) q.extents) _ d a.1 in
    each_length (ix_tree scope) q.extents p.0 p.1 ∙ ap (λ (z : Decl). length z.extents) (ok_of p.2)

kept_off : {A : Type 0} (f : A → Bool) (x : A) (xs : List A) → f x ≡ false → filter f xs ≡ [] → filter f (x ∷ xs) ≡ []
kept_off f x xs h e = ap (λ z. if z then x ∷ filter f xs else filter f xs) h ∙ e

off_kept : {A : Type 0} (f : A → Bool) (x : A) (xs : List A) → filter f (x ∷ xs) ≡ [] → (f x ≡ false) × (filter f xs ≡ [])
off_kept f x xs e = of (f x) refl e
  where
    of : (z : Bool) → f x ≡ z → (if z then x ∷ filter f xs else filter f xs) ≡ [] → (f x ≡ false) × (filter f xs ≡ [])
    of true q h = absurd (cc)
    of false q h = (q, h)

pub temps_few : (scope : Scope) (ds : List DeclDraft) (r : List Decl × Scope) → temps_tree scope ds ≡ Ok r → list_all has_few r.0 ≡ true → filter wide ds ≡ []
temps_few scope [] r e h = refl
temps_few scope (d ∷ ds) r e h =
    let p = both_ok (decl_tree scope d) _ r e in
    let q = both_ok (temps_tree (with_array scope d.word.name d.role (length d.extents)) ds) _ r p.2 in
    let s = and_parts (has_few p.0) (list_all has_few q.0.0) (ap (λ (z : List Decl × Scope). list_all has_few z.0) (ok_of q.2) ∙ h) in
    kept_off wide d ds (ap (nat_lt 4) (decl_long scope d p.0 p.1) ∙ few_so (length p.0.extents) s.0) (temps_few (with_array scope d.word.name d.role (length d.extents)) ds q.0 q.1 s.1)

pub few_temps : (scope : Scope) (ds : List DeclDraft) (r : List Decl × Scope) → temps_tree scope ds ≡ Ok r → filter wide ds ≡ [] → list_all has_few r.0 ≡ true
few_temps scope [] r e h = ap (λ (z : List Decl × Scope). list_all has_few z.0) (sym (ok_of e))
few_temps scope (d ∷ ds) r e h =
    let p = both_ok (decl_tree scope d) _ r e in
    let q = both_ok (temps_tree (with_array scope d.word.name d.role (length d.extents)) ds) _ r p.2 in
    let s = off_kept wide d ds h in
    ap (λ (z : List Decl × Scope). list_all has_few z.0) (sym (ok_of q.2))
    ∙ and_from (has_few p.0) (list_all has_few q.0.0) (so_few (length p.0.extents) (ap (nat_lt 4) (sym (decl_long scope d p.0 p.1)) ∙ s.0)) (few_temps (with_array scope d.word.name d.role (length d.extents)) ds q.0 q.1 s.1)

pub params_few : (scope : Scope) (ps : List PragmaDraft) (ds : List ParamDraft) (qs : List Param) → params_tree scope ps ds ≡ Ok qs → list_all param_fits qs ≡ true → filter wide (param_decls ds) ≡ []
params_few scope ps [] qs e h = refl
params_few scope ps (number_param w ∷ ds) qs e h =
    let p = both_ok (param_tree scope ps (number_param w)) _ qs e in
    let q = both_ok (params_tree (with_param scope (number_param w)) ps ds) _ qs p.2 in
    let s = and_parts (param_fits p.0) (list_all param_fits q.0) (ap (list_all param_fits) (ok_of q.2) ∙ h) in
    params_few (with_param scope (number_param w)) ps ds q.0 q.1 s.1
params_few scope ps (array_param d ∷ ds) qs e h =
    let p = both_ok (param_tree scope ps (array_param d)) _ qs e in
    let q = both_ok (params_tree (with_param scope (array_param d)) ps ds) _ qs p.2 in
    let s = and_parts (param_fits p.0) (list_all param_fits q.0) (ap (list_all param_fits) (ok_of q.2) ∙ h) in
    let x = both_ok (decl_tree scope d) _ p.0 p.1 in
    let few : has_few x.0 ≡ true = ap param_fits (ok_of x.2) ∙ s.0 in
    kept_off wide d (param_decls ds) (ap (nat_lt 4) (decl_long scope d x.0 x.1) ∙ few_so (length x.0.extents) few) (params_few (with_param scope (array_param d)) ps ds q.0 q.1 s.1)

-- a range that a line gives is within the limits where no line's passes them
ranges_kept : (ps : List PragmaDraft) (w : List ℕ) (low high : ℤ) → ranges_past ps ≡ [] → range_of w ps ≡ Some (low, high) → is_range low high ≡ true
ranges_kept [] w low high none e = absurd (cc)
ranges_kept (range v low_at l u ∷ ps) w low high none e =
    let p = none_of_both (at_if (not (is_range l u)) low_at) (ranges_past ps) none in
    of (same v.name w) e (on_if (is_range l u) p.0) (ranges_kept ps w low high p.1)
  where
    on_if : (z : Bool) → at_if (not z) low_at ≡ [] → z ≡ true
    on_if true q = refl
    on_if false q = absurd (cc)

    pair_is : (a b : ℤ × ℤ) → Some a ≡ Some b → a ≡ b
    pair_is a b e = cc

    of : (b : Bool) → (if b then Some (l, u) else range_of w ps) ≡ Some (low, high) → is_range l u ≡ true → (range_of w ps ≡ Some (low, high) → is_range low high ≡ true) → is_range low high ≡ true
    of true e h more = let q = pair_is (l, u) (low, high) e in ap (λ t. is_range t.0 t.1) (sym q) ∙ h
    of false e h more = more e
ranges_kept (context at cs ∷ ps) w low high none e = ranges_kept ps w low high none e

pub few_params : (scope : Scope) (ps : List PragmaDraft) (ds : List ParamDraft) (qs : List Param) → ranges_past ps ≡ [] → params_tree scope ps ds ≡ Ok qs → filter wide (param_decls ds) ≡ [] → list_all param_fits qs ≡ true
few_params scope ps [] qs none e h = ap (list_all param_fits) (sym (ok_of e))
few_params scope ps (number_param w ∷ ds) qs none e h =
    let p = both_ok (param_tree scope ps (number_param w)) _ qs e in
    let q = both_ok (params_tree (with_param scope (number_param w)) ps ds) _ qs p.2 in
    let a = allowed_ok (why_declared scope false w.name) w.at _ p.0 p.1 in
    let r = some_range w.at w.name (range_of w.name ps) p.0 a.1 in
    let fits : param_fits p.0 ≡ true = ap param_fits r.3 ∙ ranges_kept ps w.name r.0 r.1 none r.2 in
    ap (list_all param_fits) (sym (ok_of q.2)) ∙ and_from (param_fits p.0) (list_all param_fits q.0) fits (few_params (with_param scope (number_param w)) ps ds q.0 none q.1 h)
few_params scope ps (array_param d ∷ ds) qs none e h =
    let p = both_ok (param_tree scope ps (array_param d)) _ qs e in
    let q = both_ok (params_tree (with_param scope (array_param d)) ps ds) _ qs p.2 in
    let x = both_ok (decl_tree scope d) _ p.0 p.1 in
    let s = off_kept wide d (param_decls ds) h in
    let fits : param_fits p.0 ≡ true = ap param_fits (sym (ok_of x.2)) ∙ so_few (length x.0.extents) (ap (nat_lt 4) (sym (decl_long scope d x.0 x.1)) ∙ s.0) in
    ap (list_all param_fits) (sym (ok_of q.2)) ∙ and_from (param_fits p.0) (list_all param_fits q.0) fits (few_params (with_param scope (array_param d)) ps ds q.0 none q.1 s.1)

abbrev one_if : Param → ℕ
one_if q = if is_number q then 1 else 0

pub numbers_are : (scope : Scope) (ps : List PragmaDraft) (ds : List ParamDraft) (qs : List Param) → params_tree scope ps ds ≡ Ok qs → length (number_words ds) ≡ number_count qs
numbers_are scope ps [] qs e = ap number_count (ok_of e)
numbers_are scope ps (number_param w ∷ ds) qs e =
    let p = both_ok (param_tree scope ps (number_param w)) _ qs e in
    let q = both_ok (params_tree (with_param scope (number_param w)) ps ds) _ qs p.2 in
    let a = allowed_ok (why_declared scope false w.name) w.at _ p.0 p.1 in
    let r = some_range w.at w.name (range_of w.name ps) p.0 a.1 in
    let more = numbers_are (with_param scope (number_param w)) ps ds q.0 q.1 in
    let count = sum_by-cons one_if p.0 q.0 in
    let one : one_if p.0 ≡ 1 = ap one_if r.3 in
    let all = ap number_count (ok_of q.2) in
    omega (arith, more, count, one, all)
numbers_are scope ps (array_param d ∷ ds) qs e =
    let p = both_ok (param_tree scope ps (array_param d)) _ qs e in
    let q = both_ok (params_tree (with_param scope (array_param d)) ps ds) _ qs p.2 in
    let x = both_ok (decl_tree scope d) _ p.0 p.1 in
    let more = numbers_are (with_param scope (array_param d)) ps ds q.0 q.1 in
    let count = sum_by-cons one_if p.0 q.0 in
    let none : one_if p.0 ≡ 0 = ap one_if (sym (ok_of x.2)) in
    let all = ap number_count (ok_of q.2) in
    omega (arith, more, count, none, all)

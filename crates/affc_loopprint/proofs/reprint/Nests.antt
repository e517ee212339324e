-- How many loops and conditions stand round a statement of a text that keeps the limits of one without the prelude: at most 38.
use Rattle.std.proofs.Common.{◌≡◌, ◌⊎◌, inl, inr, ℕ, ◌+◌, ◌≤◌, ◌&&◌, ◌||◌, Bool, true, false, not, nat_le, nat_lt, max, List, [], ◌++◌, length, refl, sym, ap, ◌∙◌, arith}
use Rattle.std.specs.Prelude.{filter, Some, None}
use Rattle.std.proofs.lemmas.Bool.{false≢true, leb-false}
use Rattle.affc_grammar.specs.Grammar as g
use Rattle.affc_grammar.specs.Grammar.{CondText, AllText, PrimText, StmtsText, StmtText, SimpleText, BodyText, cond_symbols, all_symbols, dims_symbols, body_symbols, stmts_symbols, locals_symbols}
use Rattle.affc_grammar.specs.Draft.{CondsDraft, no_conds, and_cond, CondDraft, comparison, divisible, all_of, any_of, and_conds, conjuncts, disjuncts, cond_draft, all_draft, prim_draft, value_draft, stmts_draft, stmt_draft, simple_draft, body_draft, head_length}
use Rattle.affc_grammar.specs.Limits.{Round as Around, no_round, under_body, under_other, Assigned, passes, at_if, conds_count, cond_count, assigned, assigned_in, loads_in, has_assignment, loops_past, loops_past_in, empty_bodies, empty_bodies_in}
use Rattle.affc_wellnamed.proofs.Counts.{not_below}
use Rattle.affc_plain.proofs.Lists.{no_append, filter_none, filter_parts}
use Rattle.affc_plain.proofs.Forms.{not_placed}

abbrev mutual
  pub nest : {prelude : Bool} → StmtsText prelude → ℕ
  nest g.no_stmts = 0
  nest (g.and_stmt ss s) = max (nest ss) (nest_stmt s)

  pub nest_stmt : {prelude : Bool} → StmtText prelude → ℕ
  nest_stmt (g.simple s) = nest_simple s
  nest_stmt (g.block ls ss) = nest ss

  pub nest_simple : {prelude dangles : Bool} → SimpleText prelude dangles → ℕ
  nest_simple (g.for_loop iterator low tested strict high step body) = nest_body body + 1
  nest_simple (g.if_then c body) = nest_body body + 1
  nest_simple (g.if_else c body other) = max (nest_body body) (nest_body other) + 1
  nest_simple (g.assign array subs o v) = 0

  pub nest_body : {prelude dangles : Bool} → BodyText prelude dangles → ℕ
  nest_body (g.braces ss) = nest ss
  nest_body (g.bare s) = nest_simple s

-- ---- A condition has a comparison or a remainder

joined_count : (cs ds : CondsDraft) → conds_count (and_conds cs ds) ≡ conds_count cs + conds_count ds
joined_count cs no_conds = omega arith
joined_count cs (and_cond ds d) = let r = joined_count cs ds in omega (arith, r)

conjuncts_count : (d : CondDraft) → conds_count (conjuncts d) ≡ cond_count d
conjuncts_count (comparison c) = omega arith
conjuncts_count (divisible a by_at by so) = omega arith
conjuncts_count (all_of cs) = refl
conjuncts_count (any_of cs) = omega arith

disjuncts_count : (d : CondDraft) → conds_count (disjuncts d) ≡ cond_count d
disjuncts_count (comparison c) = omega arith
disjuncts_count (divisible a by_at by so) = omega arith
disjuncts_count (all_of cs) = omega arith
disjuncts_count (any_of cs) = refl

mutual
  cond_some : {prelude wide : Bool} (at : ℕ) (c : CondText prelude wide) → 1 ≤ cond_count (cond_draft at c)
  cond_some at (g.all_of a) = all_some at a
  cond_some at (g.or_all on c a) =
      let d = cond_draft at c in
      let e = all_draft (at + length (cond_symbols c) + 1) a in
      let s = cond_some at c in let j = joined_count (disjuncts d) (disjuncts e) in let l = disjuncts_count d in
      omega (arith, s, j, l)

  all_some : {prelude wide : Bool} (at : ℕ) (a : AllText prelude wide) → 1 ≤ cond_count (all_draft at a)
  all_some at (g.prim q) = prim_some at q
  all_some at (g.and_prim a q) =
      let d = all_draft at a in
      let e = prim_draft (at + length (all_symbols a) + 1) q in
      let s = all_some at a in let j = joined_count (conjuncts d) (conjuncts e) in let l = conjuncts_count d in
      omega (arith, s, j, l)

  prim_some : {prelude wide : Bool} (at : ℕ) (q : PrimText prelude wide) → 1 ≤ cond_count (prim_draft at q)
  prim_some at (g.enclosed c) = cond_some (at + 1) c
  prim_some at (g.compared a rel on b) = omega arith
  prim_some at (g.divisible on t by some so) = omega arith

-- an assignment with too many comparisons round it
abbrev far : Assigned → Bool
far a = passes (Some 32) a.round.comparisons

-- no assignment, and no loop or condition either; or few of them
abbrev IsNest : (Around → List Assigned) → (height loops comparisons : ℕ) → Type 0
IsNest as' h n m = (((k : Around) → as' k ≡ []) × (h ≡ 0)) ⊎ (h + n + m ≤ 38)

both_nest : (as' bs : Around → List Assigned) (h i n m : ℕ) → IsNest as' h n m → IsNest bs i n m → IsNest (λ k. as' k ++ bs k) (max h i) n m
both_nest as' bs h i n m (inl p) (inl q) =
    let a = p.1 in let b = q.1 in inl (λ k. ap (λ l. l ++ bs k) (p.0 k) ∙ q.0 k, omega (arith, a, b))
both_nest as' bs h i n m (inl p) (inr q) = let a = p.1 in inr (omega (arith, a, q))
both_nest as' bs h i n m (inr p) (inl q) = let b = q.1 in inr (omega (arith, p, b))
both_nest as' bs h i n m (inr p) (inr q) = inr (omega (arith, p, q))

-- a body that holds an assignment
full_nest : (as' : Around → List Assigned) (h n m : ℕ) → nat_lt 0 (length (as' no_round)) ≡ true → IsNest as' h n m → h + n + m ≤ 38
full_nest as' h n m e (inl p) = absurd (false≢true (sym (ap (λ l. nat_lt 0 (length l)) (p.0 no_round)) ∙ e))
full_nest as' h n m e (inr q) = q

-- two branches, of which one holds an assignment
branches_nest : (as' bs : Around → List Assigned) (h i n m : ℕ) → (nat_lt 0 (length (as' no_round)) || nat_lt 0 (length (bs no_round))) ≡ true → IsNest as' h n m → IsNest bs i n m → max h i + n + m ≤ 38
branches_nest as' bs h i n m e (inl p) (inl q) =
    absurd (false≢true (sym (ap (λ l. nat_lt 0 (length l) || nat_lt 0 (length (bs no_round))) (p.0 no_round) ∙ ap (λ l. nat_lt 0 (length l)) (q.0 no_round)) ∙ e))
branches_nest as' bs h i n m e (inl p) (inr q) = let a = p.1 in omega (arith, a, q)
branches_nest as' bs h i n m e (inr p) (inl q) = let b = q.1 in omega (arith, p, b)
branches_nest as' bs h i n m e (inr p) (inr q) = omega (arith, p, q)

is_on : (b : Bool) → not b ≡ false → b ≡ true
is_on true e = refl
is_on false e = absurd (false≢true (sym e))

-- a loop round a body that holds an assignment is one of at most six
loop_below : (n : ℕ) (b : Bool) → b ≡ true → (nat_le 6 n && b) ≡ false → n + 1 ≤ 6
loop_below n b e h = below (sym (and_true (nat_le 6 n)) ∙ ap (λ t. nat_le 6 n && t) (sym e) ∙ h)
  where
    and_true : (t : Bool) → (t && true) ≡ t
    and_true true = refl
    and_true false = refl

    below : nat_le 6 n ≡ false → n + 1 ≤ 6
    below q = let l = leb-false 6 n q in omega (arith, l)

mutual
  pub stmts_nest : {prelude : Bool} (n : ℕ) (r : Around) (at : ℕ) (ss : StmtsText prelude) → n ≤ 6 → loops_past 6 n (stmts_draft at ss) ≡ [] → empty_bodies (stmts_draft at ss) ≡ [] → filter far (assigned r (stmts_draft at ss)) ≡ []
      → IsNest (λ k. assigned k (stmts_draft at ss)) (nest ss) n r.comparisons
  stmts_nest n r at g.no_stmts h l e f = inl (λ k. refl, refl)
  stmts_nest n r at (g.and_stmt ss s) h l e f =
      let next = at + length (stmts_symbols ss) in
      let a = no_append (loops_past 6 n (stmts_draft at ss)) (loops_past_in 6 n (stmt_draft next s)) l in
      let b = no_append (empty_bodies (stmts_draft at ss)) (empty_bodies_in (stmt_draft next s)) e in
      let c = filter_parts far (assigned r (stmts_draft at ss)) (assigned_in r (stmt_draft next s)) f in
      both_nest (λ k. assigned k (stmts_draft at ss)) (λ k. assigned_in k (stmt_draft next s)) (nest ss) (nest_stmt s) n r.comparisons (stmts_nest n r at ss h a.0 b.0 c.0) (stmt_nest n r next s h a.1 b.1 c.1)

  stmt_nest : {prelude : Bool} (n : ℕ) (r : Around) (at : ℕ) (s : StmtText prelude) → n ≤ 6 → loops_past_in 6 n (stmt_draft at s) ≡ [] → empty_bodies_in (stmt_draft at s) ≡ [] → filter far (assigned_in r (stmt_draft at s)) ≡ []
      → IsNest (λ k. assigned_in k (stmt_draft at s)) (nest_stmt s) n r.comparisons
  stmt_nest n r at (g.simple s) h l e f = simple_nest n r at s h l e f
  stmt_nest n r at (g.block ls ss) h l e f = stmts_nest n r (at + 1 + length (locals_symbols ls)) ss h l e f

  simple_nest : {prelude dangles : Bool} (n : ℕ) (r : Around) (at : ℕ) (s : SimpleText prelude dangles) → n ≤ 6 → loops_past_in 6 n (simple_draft at s) ≡ [] → empty_bodies_in (simple_draft at s) ≡ [] → filter far (assigned_in r (simple_draft at s)) ≡ []
      → IsNest (λ k. assigned_in k (simple_draft at s)) (nest_simple s) n r.comparisons
  simple_nest n r at (g.for_loop iterator low tested strict high step body) h l e f =
      let inner = body_draft (at + head_length low high step) body in
      let b = no_append (at_if (not (has_assignment inner)) at) (empty_bodies inner) e in
      let full : has_assignment inner ≡ true = is_on (has_assignment inner) (not_placed (not (has_assignment inner)) at b.0) in
      let a = no_append (at_if (nat_le 6 n && has_assignment inner) at) (loops_past 6 (n + 1) inner) l in
      let most = loop_below n (has_assignment inner) full (not_placed (nat_le 6 n && has_assignment inner) at a.0) in
      let q = full_nest (λ k. assigned k inner) (nest_body body) (n + 1) r.comparisons full (body_nest (n + 1) r (at + head_length low high step) body most a.1 b.1 f) in
      inr (omega (arith, q))
  simple_nest n r at (g.if_then c body) h l e f =
      let d = cond_draft (at + 2) c in
      let next = at + 2 + length (cond_symbols c) + 1 in
      let inner = body_draft next body in
      let a = no_append (loops_past 6 n inner) [] l in
      let b = no_append (at_if (not (has_assignment inner || false)) at ++ empty_bodies inner) [] e in
      let b' = no_append (at_if (not (has_assignment inner || false)) at) (empty_bodies inner) b.0 in
      let full : (has_assignment inner || false) ≡ true = is_on (has_assignment inner || false) (not_placed (not (has_assignment inner || false)) at b'.0) in
      let g' = filter_parts far (assigned (under_body d r) inner) [] f in
      let some = cond_some (at + 2) c in
      let q = branches_nest (λ k. assigned k inner) (λ k. []) (nest_body body) 0 n (r.comparisons + cond_count d) full (body_nest n (under_body d r) next body h a.0 b'.1 g'.0) (inl (λ k. refl, refl)) in
      inr (omega (arith, q, some))
  simple_nest n r at (g.if_else c body other) h l e f =
      let d = cond_draft (at + 2) c in
      let next = at + 2 + length (cond_symbols c) + 1 in
      let last = next + length (body_symbols body) + 1 in
      let inner = body_draft next body in
      let inner' = body_draft last other in
      let a = no_append (loops_past 6 n inner) (loops_past 6 n inner') l in
      let b = no_append (at_if (not (has_assignment inner || has_assignment inner')) at ++ empty_bodies inner) (empty_bodies inner') e in
      let b' = no_append (at_if (not (has_assignment inner || has_assignment inner')) at) (empty_bodies inner) b.0 in
      let full : (has_assignment inner || has_assignment inner') ≡ true = is_on (has_assignment inner || has_assignment inner') (not_placed (not (has_assignment inner || has_assignment inner')) at b'.0) in
      let g' = filter_parts far (assigned (under_body d r) inner) (assigned (under_other d r) inner') f in
      let some = cond_some (at + 2) c in
      let q = branches_nest (λ k. assigned k inner) (λ k. assigned k inner') (nest_body body) (nest_body other) n (r.comparisons + cond_count d) full
      (body_nest n (under_body d r) next body h a.0 b'.1 g'.0) (body_nest n (under_other d r) last other h a.1 b.1 g'.1) in
      inr (omega (arith, q, some))
  simple_nest n r at (g.assign array subs None v) h l e f =
      let w = not_below 32 r.comparisons (filter_none far (record { at = at; accesses = loads_in (value_draft (at + 1 + length (dims_symbols subs) + 1) v) + 1; round = r }) [] f).0 in
      inr (omega (arith, h, w))
  simple_nest n r at (g.assign array subs (Some o) v) h l e f =
      let w = not_below 32 r.comparisons (filter_none far (record { at = at; accesses = loads_in (value_draft (at + 1 + length (dims_symbols subs) + 1) v) + 2; round = r }) [] f).0 in
      inr (omega (arith, h, w))

  body_nest : {prelude dangles : Bool} (n : ℕ) (r : Around) (at : ℕ) (b : BodyText prelude dangles) → n ≤ 6 → loops_past 6 n (body_draft at b) ≡ [] → empty_bodies (body_draft at b) ≡ [] → filter far (assigned r (body_draft at b)) ≡ []
      → IsNest (λ k. assigned k (body_draft at b)) (nest_body b) n r.comparisons
  body_nest n r at (g.braces ss) h l e f = stmts_nest n r (at + 1) ss h l e f
  body_nest n r at (g.bare s) h l e f = simple_nest n r at s h l e f

-- at the outermost place
pub nest_few : {prelude : Bool} (at : ℕ) (ss : StmtsText prelude) → loops_past 6 0 (stmts_draft at ss) ≡ [] → empty_bodies (stmts_draft at ss) ≡ [] → filter far (assigned no_round (stmts_draft at ss)) ≡ [] → nest ss ≤ 38
nest_few at ss l e f = elim (stmts_nest 0 no_round at ss (omega arith) l e f) [ inl p ↦ let z = p.1 in omega (arith, z) | inr q ↦ omega (arith, q) ]

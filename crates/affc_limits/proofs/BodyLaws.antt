-- What statements hold, one after another.
use Rattle.std.proofs.Common.{◌≡◌, ℕ, ◌+◌, ◌-◌, ◌==◌, ◌&&◌, ◌||◌, nat_le, Bool, true, not, nat_lt, ◌≤◌, drop, map, List, [], ◌∷◌, ◌++◌, length, Option, Some, None, refl, sym, ap, ◌∙◌, length-append, arith}
use Rattle.std.proofs.lemmas.Bool.Decides.{nat_tests}
use Rattle.affc_grammar.specs.Draft as d
use Rattle.affc_grammar.specs.Limits.{Round, no_round, under_body, under_other, assigned, assigned_in, empty_bodies, empty_bodies_in, has_assignment, loops_past, loops_past_in, at_if}
use Rattle.affc_limits.specs.declared.bodies.Bodies.{Bodies}
use Rattle.std.proofs.lemmas.List.{drop_all}
use Rattle.affc_ast.specs.declared.tree.Op.{Op}
use Rattle.affc_syntax.specs.declared.draft.draft.StmtDraft as code
use Rattle.affc_syntax.specs.declared.draft.draft.StmtDraft.TheVariants as s
use Rattle.affc_syntax.specs.declared.draft.draft.HeadDraft.{HeadDraft}
use Rattle.affc_syntax.specs.declared.draft.draft.CondDraft.{CondDraft}
use Rattle.affc_syntax.specs.declared.draft.draft.LocalDraft.{LocalDraft}
use Rattle.affc_syntax.proofs.draft.Outs.{stmt-For, stmt-If, stmt-Block}
use Rattle.affc_syntax.specs.draft.Drafts.{stmts_of, stmts_after, stmt, head, cond, local}
use Rattle.affc_limits.specs.Places.{least, lesser, place_if}
use Rattle.affc_limits.specs.Bodies.{bodies, all_bodies, both, under_if, under_for, on_with, no_bodies}
use Rattle.affc_limits.proofs.PlaceLaws.{any-append, lesser_assoc, least-append, least_if}

-- how many assignments there are doesn't depend on what stands round them
mutual
  same_count : (r q : Round) (ss : d.StmtsDraft) → length (assigned r ss) ≡ length (assigned q ss)
  same_count r q d.no_stmts = refl
  same_count r q (d.and_stmt ss s) =
      length-append (assigned r ss) (assigned_in r s)
      ∙ (λ i. same_count r q ss i + same_count_in r q s i)
      ∙ sym (length-append (assigned q ss) (assigned_in q s))

  same_count_in : (r q : Round) (s : d.StmtDraft) → length (assigned_in r s) ≡ length (assigned_in q s)
  same_count_in r q (d.for_loop h body) = same_count r q body
  same_count_in r q (d.if_cond at c body other) =
      length-append (assigned (under_body c r) body) (assigned (under_other c r) other)
      ∙ (λ i. same_count (under_body c r) (under_body c q) body i + same_count (under_other c r) (under_other c q) other i)
      ∙ sym (length-append (assigned (under_body c q) body) (assigned (under_other c q) other))
  same_count_in r q (d.assign w subs None v) = refl
  same_count_in r q (d.assign w subs (Some op) v) = refl
  same_count_in r q (d.block ls body) = same_count r q body

-- one loop more round statements is one fewer that is left
one_fewer : (limit n : ℕ) → nat_le limit (n + 1) ≡ nat_le (limit - 1) n
one_fewer limit n = grind (arith, nat_tests)

mutual
  fewer : (limit n : ℕ) (ss : d.StmtsDraft) → loops_past limit (n + 1) ss ≡ loops_past (limit - 1) n ss
  fewer limit n d.no_stmts = refl
  fewer limit n (d.and_stmt ss s) = λ i. fewer limit n ss i ++ fewer_in limit n s i

  fewer_in : (limit n : ℕ) (s : d.StmtDraft) → loops_past_in limit (n + 1) s ≡ loops_past_in (limit - 1) n s
  fewer_in limit n (d.for_loop h body) = λ i. at_if (one_fewer limit n i && has_assignment body) h.at ++ fewer limit (n + 1) body i
  fewer_in limit n (d.if_cond at c body other) = λ i. fewer limit n body i ++ fewer limit n other i
  fewer_in limit n (d.assign w subs op v) = refl
  fewer_in limit n (d.block ls body) = fewer limit n body

abbrev of_stmts : ℕ → d.StmtsDraft → Bodies
of_stmts left ss = record { assigns = has_assignment ss; empty = least (empty_bodies ss); loops = least (loops_past left 0 ss) }

of_more : (left : ℕ) (ss : d.StmtsDraft) (s : d.StmtDraft) → of_stmts left (d.and_stmt ss s) ≡ both (of_stmts left ss) (bodies left s)
of_more left ss s = λ i. record { assigns = any-append (assigned no_round ss) (assigned_in no_round s) i; empty = least-append (empty_bodies ss) (empty_bodies_in s) i; loops = least-append (loops_past left 0 ss) (loops_past_in left 0 s) i }

of_after : (left : ℕ) (ss : d.StmtsDraft) (xs : List d.StmtDraft) → on_with left (of_stmts left ss) xs ≡ of_stmts left (stmts_after ss xs)
of_after left ss [] = refl
of_after left ss (x ∷ xs) = ap (λ a. on_with left a xs) (sym (of_more left ss x)) ∙ of_after left (d.and_stmt ss x) xs

-- a place that is passed by a test, before those behind it
if_before : (b : Bool) (at : ℕ) (ns : List ℕ) → least (at_if b at ++ ns) ≡ lesser (place_if b at) (least ns)
if_before b at ns = least-append (at_if b at) ns ∙ ap (λ o. lesser o (least ns)) (least_if b at)

none_left : (left : ℕ) → nat_le left 0 ≡ (left == 0)
none_left left = grind (arith, nat_tests)

pub bodies-for : (left : ℕ) (h : d.HeadDraft) (xs : List d.StmtDraft) → bodies left (d.for_loop h (stmts_of xs)) ≡ under_for left h.at (all_bodies (left - 1) xs)
bodies-for left h xs =
    let body = stmts_of xs in
    (λ i. record {
      assigns = has_assignment body;
      empty = if_before (not (has_assignment body)) h.at (empty_bodies body) i;
      loops = if_before (nat_le left 0 && has_assignment body) h.at (loops_past left 1 body) i;
    })
    ∙ (λ i. record {
      assigns = has_assignment body;
      empty = lesser (place_if (not (has_assignment body)) h.at) (least (empty_bodies body));
      loops = lesser (place_if (none_left left i && has_assignment body) h.at) (least (fewer left 0 body i));
    })

holds_one : (c : d.CondDraft) (body other : d.StmtsDraft) → nat_lt 0 (length (assigned (under_body c no_round) body ++ assigned (under_other c no_round) other)) ≡ (has_assignment body || has_assignment other)
holds_one c body other =
    any-append (assigned (under_body c no_round) body) (assigned (under_other c no_round) other)
    ∙ (λ i. nat_lt 0 (same_count (under_body c no_round) no_round body i) || nat_lt 0 (same_count (under_other c no_round) no_round other i))

pub bodies-if : (left at : ℕ) (c : d.CondDraft) (xs ys : List d.StmtDraft) → bodies left (d.if_cond at c (stmts_of xs) (stmts_of ys)) ≡ under_if at (both (all_bodies left xs) (all_bodies left ys))
bodies-if left at c xs ys =
    let body = stmts_of xs in
    let other = stmts_of ys in
    let none = not (has_assignment body || has_assignment other) in
    let three : least (at_if none at ++ empty_bodies body ++ empty_bodies other) ≡ lesser (place_if none at) (lesser (least (empty_bodies body)) (least (empty_bodies other))) =
    least-append (at_if none at ++ empty_bodies body) (empty_bodies other)
    ∙ ap (λ o. lesser o (least (empty_bodies other))) (if_before none at (empty_bodies body))
    ∙ sym (lesser_assoc (place_if none at) (least (empty_bodies body)) (least (empty_bodies other))) in
    λ i. record {
      assigns = holds_one c body other i;
      empty = three i;
      loops = least-append (loops_past left 0 body) (loops_past left 0 other) i;
    }

pub bodies-block : (left : ℕ) (ls : List d.LocalDraft) (xs : List d.StmtDraft) → bodies left (d.block ls (stmts_of xs)) ≡ all_bodies left xs
bodies-block left ls xs = refl

pub bodies-assign : (left : ℕ) (w : d.WordDraft) (subs : List d.IxDraft) (op : Option Op) (v : d.ValueDraft) → bodies left (d.assign w subs op v) ≡ record { assigns = true; empty = None; loops = None }
bodies-assign left w subs None v = refl
bodies-assign left w subs (Some op) v = refl

pub ruleset body_laws = (bodies-for, bodies-if, bodies-block, bodies-assign)

-- ---- In the code's loops

pub inside_is : (left : ℕ) (a : Bodies) (xs body : List code.StmtDraft) (i : ℕ) → length xs ≤ i → on_with left a (map stmt (drop i xs)) ≡ on_with left no_bodies (map stmt xs) → xs ≡ body → a ≡ on_with left no_bodies (map stmt body)
inside_is left a xs body i le kept same = ap (λ l. on_with left a (map stmt l)) (sym (drop_all i xs le)) ∙ kept ∙ ap (λ l. on_with left no_bodies (map stmt l)) same

pub of_for : (left : ℕ) (x : code.StmtDraft) (h : HeadDraft) (body : List code.StmtDraft) → x ≡ s.For h body → under_for left h.at (all_bodies (left - 1) (map stmt body)) ≡ bodies left (stmt x)
of_for left x h body is = sym (bodies-for left (head h) (map stmt body)) ∙ ap (bodies left) (sym (stmt-For h body)) ∙ ap (λ y. bodies left (stmt y)) (sym is)

pub of_if : (left : ℕ) (x : code.StmtDraft) (at : ℕ) (c : CondDraft) (body other : List code.StmtDraft) → x ≡ s.If at c body other
    → under_if at (both (all_bodies left (map stmt body)) (all_bodies left (map stmt other))) ≡ bodies left (stmt x)
of_if left x at c body other is = sym (bodies-if left at (cond c) (map stmt body) (map stmt other)) ∙ ap (bodies left) (sym (stmt-If at c body other)) ∙ ap (λ y. bodies left (stmt y)) (sym is)

pub of_block : (left : ℕ) (x : code.StmtDraft) (locals : List LocalDraft) (body : List code.StmtDraft) → x ≡ s.Block locals body → all_bodies left (map stmt body) ≡ bodies left (stmt x)
of_block left x locals body is = sym (bodies-block left (map local locals) (map stmt body)) ∙ ap (bodies left) (sym (stmt-Block locals body)) ∙ ap (λ y. bodies left (stmt y)) (sym is)

pub of_all : (left : ℕ) (xs : List d.StmtDraft) → on_with left no_bodies xs ≡ all_bodies left xs
of_all left xs = of_after left d.no_stmts xs

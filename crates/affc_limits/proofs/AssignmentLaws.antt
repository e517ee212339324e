-- Assignments, counted one after another.
use Rattle.std.proofs.Common.{◌≡◌, ℕ, zero, suc, ◌+◌, ◌*◌, ◌-◌, ◌==◌, ◌≤◌, min, Bool, true, false, cond, nat_lt, List, [], ◌∷◌, length, map, drop, fold, filter, Option, Some, None, refl, sym, ap, ◌∙◌, arith}
use Rattle.std.proofs.lemmas.List.{drop_all}
use Rattle.std.proofs.lemmas.List.Sums.{fold-append}
use Rattle.std.proofs.lemmas.Bool.Decides.{nat_tests}
use Rattle.affc_ast.proofs.CapLemmas.{sums, products}
use Rattle.affc_grammar.specs.Draft as d
use Rattle.affc_grammar.specs.Limits.{Round, Assigned, under_body, under_other, cond_count, cond_pieces, assigned, assigned_in, loads_in}
use Rattle.affc_syntax.specs.declared.draft.draft.StmtDraft as code
use Rattle.affc_syntax.specs.declared.draft.draft.StmtDraft.TheVariants as s
use Rattle.affc_syntax.specs.declared.draft.draft.HeadDraft.{HeadDraft}
use Rattle.affc_syntax.specs.declared.draft.draft.CondDraft.{CondDraft}
use Rattle.affc_syntax.specs.declared.draft.draft.LocalDraft.{LocalDraft}
use Rattle.affc_syntax.proofs.draft.Outs.{stmt-For, stmt-If, stmt-Block}
use Rattle.affc_syntax.specs.draft.Drafts.{stmts_of, stmts_after, stmt, cond as cond_of}
use Rattle.affc_limits.specs.declared.assignments.Tally.{Tally}
use Rattle.affc_limits.specs.declared.assignments.Round as own
use Rattle.affc_limits.specs.Places.{least, lesser, place_if}
use Rattle.affc_limits.specs.Rests.{next}
use Rattle.affc_limits.specs.Assignments.{round_of, under_body as cut_body, under_other as cut_other, with_one, count_one, count_in}
use Rattle.affc_limits.specs.Conditions.{counted}
use Rattle.affc_limits.proofs.PlaceLaws.{lesser_assoc, lesser-none}

tally_after : (r : Round) (t : Tally) (ss : d.StmtsDraft) (xs : List d.StmtDraft) → fold (count_in r) (fold count_one t (assigned r ss)) xs ≡ fold count_one t (assigned r (stmts_after ss xs))
tally_after r t ss [] = refl
tally_after r t ss (x ∷ xs) =
    ap (λ u. fold (count_in r) u xs) (sym (fold-append count_one t (assigned r ss) (assigned_in r x)))
    ∙ tally_after r t (d.and_stmt ss x) xs

pub tally_all : (r : Round) (t : Tally) (xs : List d.StmtDraft) → fold (count_in r) t xs ≡ fold count_one t (assigned r (stmts_of xs))
tally_all r t xs = tally_after r t d.no_stmts xs

-- ---- Comparisons past 32 count alike, and pieces past 16

record AreAlike (r q : Round) : Type 0 where
  comparisons : min 33 r.comparisons ≡ min 33 q.comparisons
  pieces : min 17 r.pieces ≡ min 17 q.pieces

past : (k n m : ℕ) → min (k + 1) n ≡ min (k + 1) m → nat_lt k n ≡ nat_lt k m
past k n m e = grind (arith, nat_tests)

alike : (t : Tally) (at : ℕ) (b : Bool) (r q : Round) → AreAlike r q → with_one t at b r ≡ with_one t at b q
alike t at b r q h = λ i. record {
  statements = next t.statements at;
  accesses = lesser t.accesses (place_if b at);
  comparisons = lesser t.comparisons (place_if (past 32 r.comparisons q.comparisons h.comparisons i) at);
  pieces = lesser t.pieces (place_if (past 16 r.pieces q.pieces h.pieces i) at);
}

more_comparisons : (most n m k : ℕ) → min most n ≡ min most m → min most (n + k) ≡ min most (m + k)
more_comparisons most n m k e = sums most n k ∙ ap (λ j. min most (j + min most k)) e ∙ sym (sums most m k)

more_pieces : (most n m k : ℕ) → min most n ≡ min most m → min most (n * k) ≡ min most (m * k)
more_pieces most n m k e = products most n k ∙ ap (λ j. min most (j * min most k)) e ∙ sym (products most m k)

alike_body : (c : d.CondDraft) (r q : Round) → AreAlike r q → AreAlike (under_body c r) (under_body c q)
alike_body c r q h = record {
  comparisons = more_comparisons 33 r.comparisons q.comparisons (cond_count c) h.comparisons;
  pieces = more_pieces 17 r.pieces q.pieces (cond_pieces c).plain h.pieces;
}

alike_other : (c : d.CondDraft) (r q : Round) → AreAlike r q → AreAlike (under_other c r) (under_other c q)
alike_other c r q h = record {
  comparisons = more_comparisons 33 r.comparisons q.comparisons (cond_count c) h.comparisons;
  pieces = more_pieces 17 r.pieces q.pieces (cond_pieces c).denied h.pieces;
}

mutual
  same_tally : (ss : d.StmtsDraft) (t : Tally) (r q : Round) → AreAlike r q → fold count_one t (assigned r ss) ≡ fold count_one t (assigned q ss)
  same_tally d.no_stmts t r q h = refl
  same_tally (d.and_stmt ss x) t r q h =
      fold-append count_one t (assigned r ss) (assigned_in r x)
      ∙ ap (λ u. fold count_one u (assigned_in r x)) (same_tally ss t r q h)
      ∙ same_tally_in x (fold count_one t (assigned q ss)) r q h
      ∙ sym (fold-append count_one t (assigned q ss) (assigned_in q x))

  same_tally_in : (x : d.StmtDraft) (t : Tally) (r q : Round) → AreAlike r q → fold count_one t (assigned_in r x) ≡ fold count_one t (assigned_in q x)
  same_tally_in (d.for_loop h body) t r q a = same_tally body t r q a
  same_tally_in (d.if_cond at c body other) t r q a =
      fold-append count_one t (assigned (under_body c r) body) (assigned (under_other c r) other)
      ∙ ap (λ u. fold count_one u (assigned (under_other c r) other)) (same_tally body t (under_body c r) (under_body c q) (alike_body c r q a))
      ∙ same_tally other (fold count_one t (assigned (under_body c q) body)) (under_other c r) (under_other c q) (alike_other c r q a)
      ∙ sym (fold-append count_one t (assigned (under_body c q) body) (assigned (under_other c q) other))
  same_tally_in (d.assign w subs None v) t r q a = alike t w.at (nat_lt 16 (loads_in v + 1)) r q a
  same_tally_in (d.assign w subs (Some op) v) t r q a = alike t w.at (nat_lt 16 (loads_in v + 2)) r q a
  same_tally_in (d.block ls body) t r q a = same_tally body t r q a

-- ---- In the code's loops

pub counted_is : (r : Round) (t u : Tally) (xs : List code.StmtDraft) (i : ℕ) → length xs ≤ i → fold (count_in r) u (map stmt (drop i xs)) ≡ fold (count_in r) t (map stmt xs)
    → u ≡ fold count_one t (assigned r (stmts_of (map stmt xs)))
counted_is r t u xs i le kept =
    ap (λ l. fold (count_in r) u (map stmt l)) (sym (drop_all i xs le))
    ∙ kept
    ∙ tally_all r t (map stmt xs)

pub of_for : (r : Round) (t : Tally) (x : code.StmtDraft) (h : HeadDraft) (body : List code.StmtDraft) → x ≡ s.For h body → fold count_one t (assigned r (stmts_of (map stmt body))) ≡ fold count_one t (assigned_in r (stmt x))
of_for r t x h body is = ap (λ y. fold count_one t (assigned_in r y)) (sym (stmt-For h body)) ∙ ap (λ y. fold count_one t (assigned_in r (stmt y))) (sym is)

cut_sum : (most n k : ℕ) → min most (min most (n + min most k)) ≡ min most (n + k)
cut_sum most n k = omega arith

cut_again : (most k : ℕ) → min most (min most k) ≡ min most k
cut_again most k = omega arith

cut_product : (most n k : ℕ) → min most (min most (n * min most k)) ≡ min most (n * k)
cut_product most n k =
    cut_again most (n * min most k)
    ∙ products most n (min most k)
    ∙ ap (λ j. min most (min most n * j)) (cut_again most k)
    ∙ sym (products most n k)

body_is : (c : d.CondDraft) (r : own.Round) → AreAlike (round_of (cut_body (counted c) r)) (under_body c (round_of r))
body_is c r = record { comparisons = cut_sum 33 r.comparisons (cond_count c); pieces = cut_product 17 r.pieces (cond_pieces c).plain }

other_is : (c : d.CondDraft) (r : own.Round) → AreAlike (round_of (cut_other (counted c) r)) (under_other c (round_of r))
other_is c r = record { comparisons = cut_sum 33 r.comparisons (cond_count c); pieces = cut_product 17 r.pieces (cond_pieces c).denied }

pub of_if : (r : own.Round) (t : Tally) (x : code.StmtDraft) (at : ℕ) (c : CondDraft) (body other : List code.StmtDraft) → x ≡ s.If at c body other
    → fold count_one (fold count_one t (assigned (round_of (cut_body (counted (cond_of c)) r)) (stmts_of (map stmt body)))) (assigned (round_of (cut_other (counted (cond_of c)) r)) (stmts_of (map stmt other)))
    ≡ fold count_one t (assigned_in (round_of r) (stmt x))
of_if r t x at c body other is =
    let k = cond_of c in
    let inside = stmts_of (map stmt body) in
    let behind = stmts_of (map stmt other) in
    ap (λ u. fold count_one u (assigned (round_of (cut_other (counted k) r)) behind)) (same_tally inside t (round_of (cut_body (counted k) r)) (under_body k (round_of r)) (body_is k r))
    ∙ same_tally behind (fold count_one t (assigned (under_body k (round_of r)) inside)) (round_of (cut_other (counted k) r)) (under_other k (round_of r)) (other_is k r)
    ∙ sym (fold-append count_one t (assigned (under_body k (round_of r)) inside) (assigned (under_other k (round_of r)) behind))
    ∙ ap (λ y. fold count_one t (assigned_in (round_of r) y)) (sym (stmt-If at c body other))
    ∙ ap (λ y. fold count_one t (assigned_in (round_of r) (stmt y))) (sym is)

pub of_block : (r : Round) (t : Tally) (x : code.StmtDraft) (locals : List LocalDraft) (body : List code.StmtDraft) → x ≡ s.Block locals body → fold count_one t (assigned r (stmts_of (map stmt body))) ≡ fold count_one t (assigned_in r (stmt x))
of_block r t x locals body is = ap (λ y. fold count_one t (assigned_in r y)) (sym (stmt-Block locals body)) ∙ ap (λ y. fold count_one t (assigned_in r (stmt y))) (sym is)

-- ---- What the whole pass finds

some_left : (k : ℕ) → (suc k == 0) ≡ false
some_left k = grind (arith, nat_tests)

next_place : (left : ℕ) (found : Option ℕ) (n : ℕ) (ns : List ℕ) → lesser (lesser found (place_if (left == 0) n)) (least (drop (left - 1) ns)) ≡ lesser found (least (drop left (n ∷ ns)))
next_place zero found n ns = sym (lesser_assoc found (Some n) (least ns))
next_place (suc k) found n ns =
    let e : suc k - 1 ≡ k = omega arith in
    ap (λ b. lesser (lesser found (place_if b n)) (least (drop (suc k - 1) ns))) (some_left k)
    ∙ ap (λ o. lesser o (least (drop (suc k - 1) ns))) (lesser-none found)
    ∙ ap (λ j. lesser found (least (drop j ns))) e

nothing_left : (left : ℕ) (found : Option ℕ) → lesser found (least (drop left [])) ≡ found
nothing_left zero found = lesser-none found
nothing_left (suc k) found = lesser-none found

-- those of a list of places that are past so many
pub rest_all : (left : ℕ) (found : Option ℕ) (ns : List ℕ) → (fold next (record { left = left; found = found }) ns).found ≡ lesser found (least (drop left ns))
rest_all left found [] = sym (nothing_left left found)
rest_all left found (n ∷ ns) = rest_all (left - 1) (lesser found (place_if (left == 0) n)) ns ∙ next_place left found n ns

abbrev places : List Assigned → List ℕ
places xs = map (λ a. a.at) xs

pub statements_are : (t : Tally) (xs : List Assigned) → (fold count_one t xs).statements.found ≡ lesser t.statements.found (least (drop t.statements.left (places xs)))
statements_are t [] = sym (nothing_left t.statements.left t.statements.found)
statements_are t (a ∷ xs) = statements_are (count_one t a) xs ∙ next_place t.statements.left t.statements.found a.at (places xs)

next_kept : (b : Bool) (found : Option ℕ) (a : Assigned) (xs : List Assigned) → lesser (lesser found (place_if b a.at)) (least (places xs)) ≡ lesser found (least (places (cond b (a ∷ xs) xs)))
next_kept true found a xs = sym (lesser_assoc found (Some a.at) (least (places xs)))
next_kept false found a xs = ap (λ o. lesser o (least (places xs))) (lesser-none found)

pub accesses_are : (t : Tally) (xs : List Assigned) → (fold count_one t xs).accesses ≡ lesser t.accesses (least (places (filter (λ a. nat_lt 16 a.accesses) xs)))
accesses_are t [] = sym (lesser-none t.accesses)
accesses_are t (a ∷ xs) = accesses_are (count_one t a) xs ∙ next_kept (nat_lt 16 a.accesses) t.accesses a (filter (λ a. nat_lt 16 a.accesses) xs)

pub comparisons_are : (t : Tally) (xs : List Assigned) → (fold count_one t xs).comparisons ≡ lesser t.comparisons (least (places (filter (λ a. nat_lt 32 a.round.comparisons) xs)))
comparisons_are t [] = sym (lesser-none t.comparisons)
comparisons_are t (a ∷ xs) = comparisons_are (count_one t a) xs ∙ next_kept (nat_lt 32 a.round.comparisons) t.comparisons a (filter (λ a. nat_lt 32 a.round.comparisons) xs)

pub pieces_are : (t : Tally) (xs : List Assigned) → (fold count_one t xs).pieces ≡ lesser t.pieces (least (places (filter (λ a. nat_lt 16 a.round.pieces) xs)))
pieces_are t [] = sym (lesser-none t.pieces)
pieces_are t (a ∷ xs) = pieces_are (count_one t a) xs ∙ next_kept (nat_lt 16 a.round.pieces) t.pieces a (filter (λ a. nat_lt 16 a.round.pieces) xs)

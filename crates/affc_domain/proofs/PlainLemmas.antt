-- What a plain program says of what stands round each of its assignments, and of the assignments.
use Rattle.std.proofs.Common.{◌≡◌, ℕ, zero, suc, ◌+◌, ◌<◌, ◌≤◌, Bool, true, true≢false, IsTrue, List, [], ◌∷◌, ◌++◌, length, map, flat_map, Some, refl, sym, ap, subst, ◌∙◌, arith}
use Rattle.std.specs.Prelude.{◌&&◌, nat_le, nat_lt, slice_get}
use Rattle.std.proofs.lemmas.Bool.Decides.{nat_tests}
use Rattle.std.proofs.lemmas.Option.{none-some, same_Some}
use Rattle.affc_ast.specs.declared.tree.Cond.{Cond}
use Rattle.affc_ast.specs.declared.tree.Ix.{Ix}
use Rattle.affc_ast.specs.declared.tree.Program.{Program}
use Rattle.affc_ast.specs.declared.tree.Rel.{Rel}
use Rattle.affc_ast.specs.declared.tree.Stmt.{Stmt}
use Rattle.affc_ast.specs.declared.tree.Stmt.TheVariants as s
use Rattle.affc_ast.specs.declared.tree.Stmt.TheBlock.{Row_of-Stmt, more_of-Stmt, end_of-Stmt}
use Rattle.affc_ast.specs.Recursion.{by_stmt, by_each}
use Rattle.affc_ast.proofs.Steps.{row_of, unrolled, flat_unrolled}
use Rattle.affc_ast.specs.Trace.{Assignment, assignments_step, assignments, joined}
use Rattle.affc_trace.proofs.Runs.{length_append}
use Rattle.affc_domain.specs.Affine.{linear, sees, is_affine}
use Rattle.affc_domain.specs.Plain.{is_plain, plain_cond, plain_assignment, is_upward, all_of, plain_step, IsPlain}
use Rattle.affc_domain.specs.Ranges.{number_ranges}
use Rattle.affc_domain.specs.Rounds.{Round, Loop, Test, rounds_step, rounds, loops_in, comparisons_in}
use Rattle.affc_ast.specs.Denials.{denied}
use Rattle.affc_ast.specs.Pieces.{comparisons_of}
use Rattle.affc_ast.proofs.DenialLemmas.{denied_comparisons}
use Rattle.affc_domain.proofs.ConditionLemmas.{denied_plain}
use Rattle.affc_domain.proofs.FormLemmas.{same_affine}
use Rattle.affc_domain.proofs.Lists.{both_true, true_both, from_map, length_map}

-- ---- What stands round an assignment

-- what plain_step asks of the loops and conditions round an assignment
abbrev pub plain_rounds : (params loops comparisons : ℕ) → List Round → Bool
plain_rounds params loops comparisons [] = nat_le comparisons 32
plain_rounds params loops comparisons (Loop iter low rel high ∷ rs) =
    nat_lt loops 6 && (is_upward rel && (is_plain (params + loops) low && (is_plain (params + loops) high && plain_rounds params (suc loops) comparisons rs)))
plain_rounds params loops comparisons (Test cond ∷ rs) = plain_cond (params + loops) cond && plain_rounds params loops (comparisons + comparisons_of cond) rs

-- and of the assignment under them
abbrev pub PlainThere : (params loops comparisons : ℕ) → List Round → Assignment → Type 0
PlainThere params loops comparisons rs a = IsTrue (plain_rounds params loops comparisons rs) × IsTrue (plain_assignment (params + (loops + loops_in rs)) a)

abbrev AllThere : (params loops comparisons : ℕ) → List (List Round) → List Assignment → Type 0
AllThere params loops comparisons rss as' = (n : ℕ) (rs : List Round) (a : Assignment) → slice_get rss n ≡ Some rs → slice_get as' n ≡ Some a → PlainThere params loops comparisons rs a

-- ---- Lists of these

none_there : (params loops comparisons : ℕ) (as' : List Assignment) → AllThere params loops comparisons [] as'
none_there params loops comparisons as' n rs a e f = absurd (none-some rs e)

-- two lists one after the other, where the first have one length
append_there : (params loops comparisons : ℕ) (xs ys : List (List Round)) (as' bs : List Assignment) → length xs ≡ length as'
    → AllThere params loops comparisons xs as' → AllThere params loops comparisons ys bs → AllThere params loops comparisons (xs ++ ys) (as' ++ bs)
append_there params loops comparisons [] ys [] bs long f g n rs b e h = g n rs b e h
append_there params loops comparisons [] ys (a ∷ as') bs long f g n rs b e h = absurd (omega (arith, long))
append_there params loops comparisons (x ∷ xs) ys [] bs long f g n rs b e h = absurd (omega (arith, long))
append_there params loops comparisons (x ∷ xs) ys (a ∷ as') bs long f g zero rs b e h = f 0 rs b e h
append_there params loops comparisons (x ∷ xs) ys (a ∷ as') bs long f g (suc n) rs b e h = append_there params loops comparisons xs ys as' bs (omega (arith, long)) (λ m. f (suc m)) g n rs b e h

-- under a loop, and under conditions
loop_there : (params loops comparisons : ℕ) (iter : List ℕ) (low : Ix) (rel : Rel) (high : Ix) (rss : List (List Round)) (as' : List Assignment)
    → IsTrue (nat_lt loops 6) → IsTrue (is_upward rel) → IsTrue (is_plain (params + loops) low) → IsTrue (is_plain (params + loops) high)
    → AllThere params (suc loops) comparisons rss as' → AllThere params loops comparisons (map (λ rs. Loop iter low rel high ∷ rs) rss) as'
loop_there params loops comparisons iter low rel high rss as' few up l h there n rs a e f =
    let g = from_map (λ qs. Loop iter low rel high ∷ qs) rss n rs e in
    let t = there n g.0 a g.1 f in
    subst (λ qs. PlainThere params loops comparisons qs a) (sym g.2) (
      true_both (nat_lt loops 6) _ few (true_both (is_upward rel) _ up (true_both (is_plain (params + loops) low) _ l (true_both (is_plain (params + loops) high) (plain_rounds params (suc loops) comparisons g.0) h t.0))),
      subst (λ m. IsTrue (plain_assignment (params + m) a)) (deeper loops (loops_in g.0)) t.1,
    )
  where
    deeper : (m k : ℕ) → suc m + k ≡ m + suc k
    deeper m k = omega arith

test_there : (params loops comparisons : ℕ) (cond : Cond) (rss : List (List Round)) (as' : List Assignment)
    → IsTrue (plain_cond (params + loops) cond) → AllThere params loops (comparisons + comparisons_of cond) rss as' → AllThere params loops comparisons (map (λ rs. Test cond ∷ rs) rss) as'
test_there params loops comparisons cond rss as' tests there n rs a e f =
    let g = from_map (λ qs. Test cond ∷ qs) rss n rs e in
    let t = there n g.0 a g.1 f in
    subst (λ qs. PlainThere params loops comparisons qs a) (sym g.2)
    (true_both (plain_cond (params + loops) cond) (plain_rounds params loops (comparisons + comparisons_of cond) g.0) tests t.0, t.1)

alone_there : (params loops comparisons : ℕ) (a : Assignment) → IsTrue (nat_le comparisons 32) → IsTrue (plain_assignment (params + loops) a) → AllThere params loops comparisons ([] ∷ []) (a ∷ [])
alone_there params loops comparisons a few plain zero rs b e f =
    subst (λ qs. PlainThere params loops comparisons qs b) (same_Some [] rs e)
    (few, subst (λ c. IsTrue (plain_assignment (params + (loops + 0)) c)) (same_Some a b f) (subst (λ m. IsTrue (plain_assignment (params + m) a)) (none_more loops) plain))
  where
    none_more : (n : ℕ) → n ≡ n + 0
    none_more n = omega arith
alone_there params loops comparisons a few plain (suc n) rs b e f = absurd (none-some rs e)

-- ---- Statements

mutual
  -- as many entries as assignments
  same_count : (x : Stmt) → length (by_stmt rounds_step x) ≡ length (by_stmt assignments_step x)
  same_count (s.For' iter low rel high shape body) = length_map (λ rs. Loop iter low rel high ∷ rs) (joined (by_each rounds_step body)) ∙ row_same_count body
  same_count (s.If' cond shape body shape' other) =
      length_append (map (λ rs. Test cond ∷ rs) (joined (by_each rounds_step body))) (map (λ rs. Test (denied cond) ∷ rs) (joined (by_each rounds_step other)))
      ∙ ap (λ u. u + length (map (λ rs. Test (denied cond) ∷ rs) (joined (by_each rounds_step other)))) (length_map (λ rs. Test cond ∷ rs) (joined (by_each rounds_step body)) ∙ row_same_count body)
      ∙ ap (λ u. length (joined (by_each assignments_step body)) + u) (length_map (λ rs. Test (denied cond) ∷ rs) (joined (by_each rounds_step other)) ∙ row_same_count other)
      ∙ sym (length_append (joined (by_each assignments_step body)) (joined (by_each assignments_step other)))
  same_count (s.Assign op array subs value) = refl
  same_count (s.Block' locals shape body) = row_same_count body

  row_same_count : {n : _} (body : Row_of-Stmt n) → length (joined (by_each rounds_step body)) ≡ length (joined (by_each assignments_step body))
  row_same_count end_of-Stmt = refl
  row_same_count (more_of-Stmt x rest) =
      length_append (by_stmt rounds_step x) (joined (by_each rounds_step rest))
      ∙ ap (λ u. u + length (joined (by_each rounds_step rest))) (same_count x)
      ∙ ap (λ u. length (by_stmt assignments_step x) + u) (row_same_count rest)
      ∙ sym (length_append (by_stmt assignments_step x) (joined (by_each assignments_step rest)))

module _ (params : ℕ) where
  mutual
    plain_there : (x : Stmt) (loops comparisons : ℕ) → IsTrue (by_stmt (plain_step params) x loops comparisons) → AllThere params loops comparisons (by_stmt rounds_step x) (by_stmt assignments_step x)
    plain_there (s.For' iter low rel high shape body) loops comparisons h =
        let a = both_true (nat_lt loops 6) _ h in
        let b = both_true (is_upward rel) _ a.1 in
        let c = both_true (is_plain (params + loops) low) _ b.1 in
        let d = both_true (is_plain (params + loops) high) (all_of (by_each (plain_step params) body) (suc loops) comparisons) c.1 in
        loop_there params loops comparisons iter low rel high (joined (by_each rounds_step body)) (joined (by_each assignments_step body)) a.0 b.0 c.0 d.0 (row_plain_there body (suc loops) comparisons d.1)
    plain_there (s.If' cond shape body shape' other) loops comparisons h =
        let more = comparisons + comparisons_of cond in
        let a = both_true (plain_cond (params + loops) cond) _ h in
        let b = both_true (all_of (by_each (plain_step params) body) loops more) (all_of (by_each (plain_step params) other) loops more) a.1 in
        append_there params loops comparisons (map (λ rs. Test cond ∷ rs) (joined (by_each rounds_step body))) (map (λ rs. Test (denied cond) ∷ rs) (joined (by_each rounds_step other)))
        (joined (by_each assignments_step body)) (joined (by_each assignments_step other))
        (length_map (λ rs. Test cond ∷ rs) (joined (by_each rounds_step body)) ∙ row_same_count body)
        (test_there params loops comparisons cond (joined (by_each rounds_step body)) (joined (by_each assignments_step body)) a.0 (row_plain_there body loops more b.0))
        (test_there params loops comparisons (denied cond) (joined (by_each rounds_step other)) (joined (by_each assignments_step other)) (denied_plain (params + loops) cond ∙ a.0)
        (subst (λ n. AllThere params loops (comparisons + n) (joined (by_each rounds_step other)) (joined (by_each assignments_step other))) (sym (denied_comparisons cond)) (row_plain_there other loops more b.1)))
    plain_there (s.Assign op array subs value) loops comparisons h =
        let a = both_true (nat_le comparisons 32) (plain_assignment (params + loops) (record { op = op; array = array; subs = subs; value = value })) h in
        alone_there params loops comparisons (record { op = op; array = array; subs = subs; value = value }) a.0 a.1
    plain_there (s.Block' [] shape body) loops comparisons h = row_plain_there body loops comparisons h
    plain_there (s.Block' (l ∷ ls) shape body) loops comparisons h = absurd (true≢false (sym h))

    row_plain_there : {n : _} (body : Row_of-Stmt n) (loops comparisons : ℕ) → IsTrue (all_of (by_each (plain_step params) body) loops comparisons) → AllThere params loops comparisons (joined (by_each rounds_step body)) (joined (by_each assignments_step body))
    row_plain_there end_of-Stmt loops comparisons h = none_there params loops comparisons []
    row_plain_there (more_of-Stmt x rest) loops comparisons h =
        let a = both_true (by_stmt (plain_step params) x loops comparisons) (all_of (by_each (plain_step params) rest) loops comparisons) h in
        append_there params loops comparisons (by_stmt rounds_step x) (joined (by_each rounds_step rest)) (by_stmt assignments_step x) (joined (by_each assignments_step rest)) (same_count x) (plain_there x loops comparisons a.0) (row_plain_there rest loops comparisons a.1)

  list_plain_there : (body : List Stmt) (loops comparisons : ℕ) → IsTrue (all_of (map (by_stmt (plain_step params)) body) loops comparisons)
      → AllThere params loops comparisons (flat_map (by_stmt rounds_step) body) (flat_map (by_stmt assignments_step) body)
  list_plain_there body loops comparisons h =
      subst (λ rss. AllThere params loops comparisons rss (flat_map (by_stmt assignments_step) body)) (sym (flat_unrolled rounds_step body))
      (subst (AllThere params loops comparisons (joined (by_each rounds_step (row_of body)))) (sym (flat_unrolled assignments_step body))
      (row_plain_there (row_of body) loops comparisons (subst (λ fs. IsTrue (all_of fs loops comparisons)) (unrolled (plain_step params) body) h)))

-- ---- Programs

-- what stands round is listed once for each assignment
pub rounds_of_each : (program : Program) → length (rounds program) ≡ length (assignments program)
rounds_of_each program = ap length (flat_unrolled rounds_step program.body) ∙ row_same_count (row_of program.body) ∙ sym (ap length (flat_unrolled assignments_step program.body))

-- what is listed has an assignment
pub has_assignment : (program : Program) (n : ℕ) (rs : List Round) → slice_get (rounds program) n ≡ Some rs → (a : Assignment) × (slice_get (assignments program) n ≡ Some a)
has_assignment program n rs e = entry (rounds program) (assignments program) n rs (rounds_of_each program) e
  where
    entry : (xs : List (List Round)) (ys : List Assignment) (n : ℕ) (x : List Round) → length xs ≡ length ys → slice_get xs n ≡ Some x → (y : Assignment) × (slice_get ys n ≡ Some y)
    entry [] ys n x long e = absurd (none-some x e)
    entry (z ∷ xs) [] n x long e = absurd (omega (arith, long))
    entry (z ∷ xs) (y ∷ ys) zero x long e = (y, refl)
    entry (z ∷ xs) (y ∷ ys) (suc n) x long e = entry xs ys n x (omega (arith, long)) e

-- where a program is plain, so is each assignment and what stands round it
pub assignments_are_plain : (program : Program) → IsPlain program → (n : ℕ) (rs : List Round) (a : Assignment) → slice_get (rounds program) n ≡ Some rs → slice_get (assignments program) n ≡ Some a
    → PlainThere (length (number_ranges program.params)) 0 0 rs a
assignments_are_plain program plain n rs a e f = list_plain_there (length (number_ranges program.params)) program.body 0 0 plain.body n rs a e f

pub rounds_are_plain : (program : Program) → IsPlain program → (n : ℕ) (rs : List Round) → slice_get (rounds program) n ≡ Some rs → IsTrue (plain_rounds (length (number_ranges program.params)) 0 0 rs)
rounds_are_plain program plain n rs e = let a = has_assignment program n rs e in (assignments_are_plain program plain n rs a.0 e a.1).0

pub is_plain_affine : (names : ℕ) (e : Ix) → IsTrue (is_plain names e) → IsTrue (is_affine e)
is_plain_affine names e h =
    let a = both_true (sees names e) ((linear names 0 e).affine && (linear names 0 e).small) h in
    let b = both_true (linear names 0 e).affine (linear names 0 e).small a.1 in
    same_affine 0 0 names 0 e ∙ b.0

-- at most six loops, at most 32 comparisons
pub few_loops : (params loops comparisons : ℕ) (rs : List Round) → loops ≤ 6 → IsTrue (plain_rounds params loops comparisons rs) → loops + loops_in rs ≤ 6
few_loops params loops comparisons [] few h = omega (arith, few)
few_loops params loops comparisons (Loop iter low rel high ∷ rs) few h =
    let a = both_true (nat_lt loops 6) _ h in
    let b = both_true (is_upward rel) _ a.1 in
    let c = both_true (is_plain (params + loops) low) _ b.1 in
    let d = both_true (is_plain (params + loops) high) (plain_rounds params (suc loops) comparisons rs) c.1 in
    let l : loops < 6 = less loops 6 a.0 in
    let g : suc loops + loops_in rs ≤ 6 = few_loops params (suc loops) comparisons rs (omega arith) d.1 in
    omega arith
  where
    less : (m n : ℕ) → nat_lt m n ≡ true → m < n
    less m n e = grind (arith, nat_tests)
few_loops params loops comparisons (Test cond ∷ rs) few h =
    few_loops params loops (comparisons + comparisons_of cond) rs few (both_true (plain_cond (params + loops) cond) (plain_rounds params loops (comparisons + comparisons_of cond) rs) h).1

pub few_comparisons : (params loops comparisons : ℕ) (rs : List Round) → IsTrue (plain_rounds params loops comparisons rs) → comparisons + comparisons_in rs ≤ 32
few_comparisons params loops comparisons [] h = let l : comparisons ≤ 32 = at_most comparisons 32 h in omega arith
  where
    at_most : (m n : ℕ) → nat_le m n ≡ true → m ≤ n
    at_most m n e = grind (arith, nat_tests)
few_comparisons params loops comparisons (Loop iter low rel high ∷ rs) h =
    let a = both_true (nat_lt loops 6) _ h in
    let b = both_true (is_upward rel) _ a.1 in
    let c = both_true (is_plain (params + loops) low) _ b.1 in
    let d = both_true (is_plain (params + loops) high) (plain_rounds params (suc loops) comparisons rs) c.1 in
    few_comparisons params (suc loops) comparisons rs d.1
few_comparisons params loops comparisons (Test cond ∷ rs) h =
    let g : (comparisons + comparisons_of cond) + comparisons_in rs ≤ 32 = few_comparisons params loops (comparisons + comparisons_of cond) rs (both_true (plain_cond (params + loops) cond) (plain_rounds params loops (comparisons + comparisons_of cond) rs) h).1 in
    omega arith

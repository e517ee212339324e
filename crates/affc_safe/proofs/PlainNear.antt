-- A plain program never overflows, where the interval rule finds no wide range.
use Rattle.std.proofs.Common.{◌≡◌, ℕ, zero, suc, ◌+◌, ◌<◌, ◌≤◌, ℤ, Bool, true, false, not, ◌&&◌, int_lt, int_le, IsTrue, List, [], ◌∷◌, ◌++◌, length, map, flat_map, Option, Some, None, refl, sym, ap, subst, ◌∙◌, inl, inr, ◌^◌, arith, length-append}
use Rattle.std.specs.Prelude.{◌||◌, nat_lt, nat_le, nat_abs, if◌then◌else◌, slice_get}
use Rattle.std.proofs.lemmas.Bool.{false≢true, lt-ltb, ltb-true, le-leb, leb-true}
use Rattle.std.proofs.lemmas.Option.{none-some, same_Some}
use Rattle.affc_ast.specs.declared.tree.Cond.{Cond}
use Rattle.affc_ast.specs.declared.tree.Decl.{Decl}
use Rattle.affc_ast.specs.declared.tree.Instance.{Instance}
use Rattle.affc_ast.specs.declared.tree.Ix.{Ix}
use Rattle.affc_ast.specs.declared.tree.Program.{Program}
use Rattle.affc_ast.specs.declared.tree.Rel.{Rel}
use Rattle.affc_ast.specs.declared.tree.Stmt.{Stmt}
use Rattle.affc_ast.specs.declared.tree.Stmt.TheVariants as s
use Rattle.affc_ast.specs.declared.tree.Stmt.TheBlock.{Row_of-Stmt, more_of-Stmt, end_of-Stmt}
use Rattle.affc_ast.specs.Denials.{denied}
use Rattle.affc_ast.specs.Fits.{within_ranges}
use Rattle.affc_ast.specs.Meaning.{arrays_of}
use Rattle.affc_ast.specs.Pieces.{comparisons_of}
use Rattle.affc_ast.specs.Recursion.{by_stmt, by_each}
use Rattle.affc_ast.specs.Trace.{Assignment, assignments, trace}
use Rattle.affc_ast.proofs.Steps.{row_of, unrolled, flat_unrolled}
use Rattle.affc_trace.specs.Law.{IsIn}
use Rattle.affc_trace.proofs.Once.{in_append}
use Rattle.affc_trace.proofs.Runs.{length_append}
use Rattle.affc_trace.specs.Effects.{all_true, has_no_locals, plain_step as bare_step}
use Rattle.affc_trace.proofs.Members.{both_hold, hold_both}
use Rattle.affc_domain.specs.Accesses.{accesses_of}
use Rattle.affc_domain.specs.Plain.{is_plain, all_plain, plain_cond, plain_value, plain_decls, plain_range, plain_ranges, plain_step, all_of, is_upward, some_hold, all_full, full_step, IsPlain}
use Rattle.affc_domain.specs.Ranges.{Ranges, Within, Never, Wide, outermost, is_near, range_of, entered, ranges_of, number_ranges, AreWithin, first_wide_of, first_wide}
use Rattle.affc_domain.specs.Rounds.{Round, Loop, Test, rounds_step, rounds, loops_in}
use Rattle.affc_domain.proofs.CountLemmas.{iterators_of_loops}
use Rattle.affc_domain.proofs.PlainLemmas.{assignments_are_plain, few_loops}
use Rattle.affc_domain.proofs.RangeLemmas.{box_length, iterators_keep_ranges}
use Rattle.affc_domain.proofs.TurnLemmas.{instances_turn}
use Rattle.affc_safe.specs.Laws.{PlainNeverOverflows}
use Rattle.affc_safe.specs.Overflow.{near_or_never, all_near, near_step, near_ranges, keeps_near, ReadsAssignment}
use Rattle.affc_safe.proofs.PlainReads.{AreNear, Near, near_between, all_plain_read, plain_value_read}
use Rattle.affc_safe.proofs.Walk.{Sits, params_sit}

-- ---- No locals

module _ (m : ℕ) where
  mutual
    stmt_bare : (x : Stmt) (k c : ℕ) → by_stmt (plain_step m) x k c ≡ true → by_stmt bare_step x ≡ true
    stmt_bare (s.For' iter low rel high shape body) k c h =
        let a = both_hold (nat_lt k 6) _ h in
        let b = both_hold (is_upward rel) _ a.1 in
        let d = both_hold (is_plain (m + k) low) _ b.1 in
        let e = both_hold (is_plain (m + k) high) _ d.1 in
        row_bare body (suc k) c e.1
    stmt_bare (s.If' cond shape body shape' other) k c h =
        let more : ℕ = c + comparisons_of cond in
        let a = both_hold (plain_cond (m + k) cond) _ h in
        let b = both_hold (all_of (by_each (plain_step m) body) k more) (all_of (by_each (plain_step m) other) k more) a.1 in
        hold_both (all_true (by_each bare_step body)) (all_true (by_each bare_step other)) (row_bare body k more b.0) (row_bare other k more b.1)
    stmt_bare (s.Assign op array subs value) k c h = refl
    stmt_bare (s.Block' [] shape body) k c h = row_bare body k c h
    stmt_bare (s.Block' (l ∷ ls) shape body) k c h = absurd (false≢true h)

    row_bare : {n : _} (body : Row_of-Stmt n) (k c : ℕ) → all_of (by_each (plain_step m) body) k c ≡ true → all_true (by_each bare_step body) ≡ true
    row_bare end_of-Stmt k c h = refl
    row_bare (more_of-Stmt x rest) k c h =
        let a = both_hold (by_stmt (plain_step m) x k c) (all_of (by_each (plain_step m) rest) k c) h in
        hold_both (by_stmt bare_step x) (all_true (by_each bare_step rest)) (stmt_bare x k c a.0) (row_bare rest k c a.1)

  list_bare : (body : List Stmt) (k c : ℕ) → all_of (map (by_stmt (plain_step m)) body) k c ≡ true → all_true (map (by_stmt bare_step) body) ≡ true
  list_bare body k c h =
      subst (λ bs. all_true bs ≡ true) (sym (unrolled bare_step body)) (row_bare (row_of body) k c (subst (λ fs. all_of fs k c ≡ true) (unrolled (plain_step m) body) h))

pub plain_has_no_locals : (program : Program) → IsPlain program → IsTrue (has_no_locals program)
plain_has_no_locals program plain = list_bare (length (number_ranges program.params)) program.body 0 0 plain.body

-- ---- The interval rule

abbrev is_wide : Ranges → Bool
is_wide (Wide n) = true
is_wide _ = false

abbrev none_wide_in : List (ℤ × ℤ) → List (List Round) → Bool
none_wide_in ranges [] = true
none_wide_in ranges (rs ∷ rss) = not (is_wide (ranges_of ranges rs)) && none_wide_in ranges rss

abbrev wide_or : ℕ → Ranges → Option (ℕ × ℕ) → Option (ℕ × ℕ)
wide_or statement (Wide loop) others = Some (statement, loop)
wide_or statement _ others = others

wide_parts : (statement : ℕ) (r : Ranges) (o : Option (ℕ × ℕ)) → wide_or statement r o ≡ None → (not (is_wide r) ≡ true) × (o ≡ None)
wide_parts k (Within rs) o e = (refl, e)
wide_parts k Never o e = (refl, e)
wide_parts k (Wide n) o e = absurd (none-some (k, n) (sym e))

none_wide : (ranges : List (ℤ × ℤ)) (statement : ℕ) (rss : List (List Round)) → first_wide_of ranges statement rss ≡ None → none_wide_in ranges rss ≡ true
none_wide ranges k [] e = refl
none_wide ranges k (rs ∷ rss) e =
    let h = wide_parts k (ranges_of ranges rs) (first_wide_of ranges (suc k) rss) e in
    hold_both (not (is_wide (ranges_of ranges rs))) (none_wide_in ranges rss) h.0 (none_wide ranges (suc k) rss h.1)

near_parts : (ranges : List (ℤ × ℤ)) (xs ys : List (List Round)) → none_wide_in ranges (xs ++ ys) ≡ true → (none_wide_in ranges xs ≡ true) × (none_wide_in ranges ys ≡ true)
near_parts ranges [] ys h = (refl, h)
near_parts ranges (x ∷ xs) ys h =
    let a = both_hold (not (is_wide (ranges_of ranges x))) (none_wide_in ranges (xs ++ ys)) h in
    let r = near_parts ranges xs ys a.1 in
    (hold_both (not (is_wide (ranges_of ranges x))) (none_wide_in ranges xs) a.0 r.0, r.1)

near_test : (ranges : List (ℤ × ℤ)) (cond : Cond) (xs : List (List Round)) → none_wide_in ranges (map (λ rs. Test cond ∷ rs) xs) ≡ true → none_wide_in ranges xs ≡ true
near_test ranges cond [] h = refl
near_test ranges cond (x ∷ xs) h =
    let a = both_hold (not (is_wide (ranges_of ranges x))) (none_wide_in ranges (map (λ rs. Test cond ∷ rs) xs)) h in
    hold_both (not (is_wide (ranges_of ranges x))) (none_wide_in ranges xs) a.0 (near_test ranges cond xs a.1)

-- a loop that isn't wide
not_wide : (r : ℤ × ℤ) (inside : Ranges) → int_lt r.1 r.0 ≡ false → not (is_wide (entered r inside)) ≡ true → ((is_near r.0 && is_near r.1) ≡ true) × (not (is_wide inside) ≡ true)
not_wide r inside e h = by (int_lt r.1 r.0) (is_near r.0 && is_near r.1) inside e h
  where
    by : (t u : Bool) (i : Ranges) → t ≡ false → not (is_wide (if t then Never else (if not u then Wide 0 else outermost r i))) ≡ true → (u ≡ true) × (not (is_wide i) ≡ true)
    by true u i e h = absurd (false≢true (sym e))
    by false false i e h = absurd (false≢true h)
    by false true (Within rs) e h = (refl, refl)
    by false true Never e h = (refl, refl)
    by false true (Wide n) e h = absurd (false≢true h)

near_loops : (ranges : List (ℤ × ℤ)) (iter : List ℕ) (low : Ix) (rel : Rel) (high : Ix) (xs : List (List Round)) → int_lt (range_of ranges low rel high).1 (range_of ranges low rel high).0 ≡ false
    → none_wide_in ranges (map (λ rs. Loop iter low rel high ∷ rs) xs) ≡ true → none_wide_in (ranges ++ range_of ranges low rel high ∷ []) xs ≡ true
near_loops ranges iter low rel high [] e h = refl
near_loops ranges iter low rel high (x ∷ xs) e h =
    let r : ℤ × ℤ = range_of ranges low rel high in
    let a = both_hold (not (is_wide (ranges_of ranges (Loop iter low rel high ∷ x)))) (none_wide_in ranges (map (λ rs. Loop iter low rel high ∷ rs) xs)) h in
    let b = not_wide r (ranges_of (ranges ++ r ∷ []) x) e a.0 in
    hold_both (not (is_wide (ranges_of (ranges ++ r ∷ []) x))) (none_wide_in (ranges ++ r ∷ []) xs) b.1 (near_loops ranges iter low rel high xs e a.1)

abbrev is_some_round : List (List Round) → Bool
is_some_round [] = false
is_some_round (x ∷ xs) = true

near_loop : (ranges : List (ℤ × ℤ)) (iter : List ℕ) (low : Ix) (rel : Rel) (high : Ix) (xs : List (List Round)) → is_some_round xs ≡ true → int_lt (range_of ranges low rel high).1 (range_of ranges low rel high).0 ≡ false
    → none_wide_in ranges (map (λ rs. Loop iter low rel high ∷ rs) xs) ≡ true → (is_near (range_of ranges low rel high).0 && is_near (range_of ranges low rel high).1) ≡ true
near_loop ranges iter low rel high [] o e h = absurd (false≢true o)
near_loop ranges iter low rel high (x ∷ xs) o e h =
    let r : ℤ × ℤ = range_of ranges low rel high in
    let a = both_hold (not (is_wide (ranges_of ranges (Loop iter low rel high ∷ x)))) (none_wide_in ranges (map (λ rs. Loop iter low rel high ∷ rs) xs)) h in
    (not_wide r (ranges_of (ranges ++ r ∷ []) x) e a.0).0

some_append : (xs ys : List (List Round)) → (is_some_round xs || is_some_round ys) ≡ true → is_some_round (xs ++ ys) ≡ true
some_append [] ys h = h
some_append (x ∷ xs) ys h = refl

some_map : (r : Round) (xs : List (List Round)) → is_some_round xs ≡ true → is_some_round (map (λ rs. r ∷ rs) xs) ≡ true
some_map r [] h = h
some_map r (x ∷ xs) h = refl

either : (a b c d : Bool) → (a ≡ true → c ≡ true) → (b ≡ true → d ≡ true) → (a || b) ≡ true → (c || d) ≡ true
either true b c d f g h = ap (λ t. t || d) (f refl)
either false b true d f g h = refl
either false b false d f g h = g h

abbrev joined_rounds : {n : _} → Row_of-Stmt n → List (List Round)
joined_rounds body = flat_map (λ a. a) (by_each rounds_step body)

mutual
  stmt_some : (x : Stmt) → (by_stmt full_step x).0 ≡ true → is_some_round (by_stmt rounds_step x) ≡ true
  stmt_some (s.For' iter low rel high shape body) h = some_map (Loop iter low rel high) (joined_rounds body) (row_some body h)
  stmt_some (s.If' cond shape body shape' other) h =
      some_append (map (λ rs. Test cond ∷ rs) (joined_rounds body)) (map (λ rs. Test (denied cond) ∷ rs) (joined_rounds other))
      (either (some_hold (by_each full_step body)) (some_hold (by_each full_step other)) (is_some_round (map (λ rs. Test cond ∷ rs) (joined_rounds body))) (is_some_round (map (λ rs. Test (denied cond) ∷ rs) (joined_rounds other)))
      (λ g. some_map (Test cond) (joined_rounds body) (row_some body g)) (λ g. some_map (Test (denied cond)) (joined_rounds other) (row_some other g)) h)
  stmt_some (s.Assign op array subs value) h = refl
  stmt_some (s.Block' locals shape body) h = row_some body h

  row_some : {n : _} (body : Row_of-Stmt n) → some_hold (by_each full_step body) ≡ true → is_some_round (joined_rounds body) ≡ true
  row_some end_of-Stmt h = h
  row_some (more_of-Stmt x rest) h = some_append (by_stmt rounds_step x) (joined_rounds rest) (either (by_stmt full_step x).0 (some_hold (by_each full_step rest)) (is_some_round (by_stmt rounds_step x)) (is_some_round (joined_rounds rest)) (stmt_some x) (row_some rest) h)

-- ---- Loops and conditions

enter : (r : ℤ × ℤ) (inside : Bool) → (int_lt r.1 r.0 ≡ false → ((is_near r.0 && is_near r.1) ≡ true) × (inside ≡ true)) → near_or_never r inside ≡ true
enter r inside f = by (int_lt r.1 r.0) f
  where
    by : (t : Bool) → (t ≡ false → ((is_near r.0 && is_near r.1) ≡ true) × (inside ≡ true)) → (t || ((is_near r.0 && is_near r.1) && inside)) ≡ true
    by true f = refl
    by false f = let p = f refl in hold_both (is_near r.0 && is_near r.1) inside p.0 p.1

module _ (m : ℕ) (few : m ≤ 4) where
  one_more : (k n : ℕ) → m + k ≡ n → m + suc k ≡ n + 1
  one_more k n e = omega (arith, e)

  under_sixteen : (k n : ℕ) → m + k ≡ n → IsTrue (nat_lt k 6) → IsTrue (nat_lt n 16)
  under_sixteen k n e h = let b : k < 6 = ltb-true k 6 h in lt-ltb n 16 (omega arith)

  abbrev near_in : {n : _} → Row_of-Stmt n → List (ℤ × ℤ) → Bool
  near_in body ranges = all_near (by_each near_step body) ranges

  mutual
    stmt_near : (x : Stmt) (k c : ℕ) (ranges : List (ℤ × ℤ)) → m + k ≡ length ranges → by_stmt (plain_step m) x k c ≡ true → (by_stmt full_step x).1 ≡ true → none_wide_in ranges (by_stmt rounds_step x) ≡ true → by_stmt near_step x ranges ≡ true
    stmt_near (s.For' iter low rel high shape body) k c ranges e g f w =
        let r : ℤ × ℤ = range_of ranges low rel high in
        let d = both_hold (nat_lt k 6) _ g in
        let u = both_hold (is_upward rel) _ d.1 in
        let a = both_hold (is_plain (m + k) low) _ u.1 in
        let b = both_hold (is_plain (m + k) high) _ a.1 in
        let h = both_hold (some_hold (by_each full_step body)) (all_full (by_each full_step body)) f in
        let longer : m + suc k ≡ length (ranges ++ r ∷ []) = one_more k (length ranges) e ∙ sym (length-append ranges (r ∷ [])) in
        hold_both (nat_lt (length ranges) 16) _ (under_sixteen k (length ranges) e d.0)
        (hold_both (is_plain (length ranges) low) _ (subst (λ n. is_plain n low ≡ true) e a.0)
        (hold_both (is_plain (length ranges) high) _ (subst (λ n. is_plain n high ≡ true) e b.0)
        (enter r (near_in body (ranges ++ r ∷ [])) (λ i. (
          near_loop ranges iter low rel high (joined_rounds body) (row_some body h.0) i w,
          row_near body (suc k) c (ranges ++ r ∷ []) longer b.1 h.1 (near_loops ranges iter low rel high (joined_rounds body) i w),
        )))))
    stmt_near (s.If' cond shape body shape' other) k c ranges e g f w =
        let more : ℕ = c + comparisons_of cond in
        let a = both_hold (plain_cond (m + k) cond) _ g in
        let b = both_hold (all_of (by_each (plain_step m) body) k more) (all_of (by_each (plain_step m) other) k more) a.1 in
        let h = both_hold (some_hold (by_each full_step body) || some_hold (by_each full_step other)) _ f in
        let i = both_hold (all_full (by_each full_step body)) (all_full (by_each full_step other)) h.1 in
        let v = near_parts ranges (map (λ rs. Test cond ∷ rs) (joined_rounds body)) (map (λ rs. Test (denied cond) ∷ rs) (joined_rounds other)) w in
        hold_both (plain_cond (length ranges) cond) _ (subst (λ n. plain_cond n cond ≡ true) e a.0)
        (hold_both (near_in body ranges) (near_in other ranges)
        (row_near body k more ranges e b.0 i.0 (near_test ranges cond (joined_rounds body) v.0))
        (row_near other k more ranges e b.1 i.1 (near_test ranges (denied cond) (joined_rounds other) v.1)))
    stmt_near (s.Assign op array subs value) k c ranges e g f w = refl
    stmt_near (s.Block' [] shape body) k c ranges e g f w = row_near body k c ranges e g f w
    stmt_near (s.Block' (l ∷ ls) shape body) k c ranges e g f w = absurd (false≢true g)

    row_near : {n : _} (body : Row_of-Stmt n) (k c : ℕ) (ranges : List (ℤ × ℤ)) → m + k ≡ length ranges → all_of (by_each (plain_step m) body) k c ≡ true → all_full (by_each full_step body) ≡ true → none_wide_in ranges (joined_rounds body) ≡ true → near_in body ranges ≡ true
    row_near end_of-Stmt k c ranges e g f w = refl
    row_near (more_of-Stmt x rest) k c ranges e g f w =
        let a = both_hold (by_stmt (plain_step m) x k c) (all_of (by_each (plain_step m) rest) k c) g in
        let b = both_hold (by_stmt full_step x).1 (all_full (by_each full_step rest)) f in
        let d = near_parts ranges (by_stmt rounds_step x) (joined_rounds rest) w in
        hold_both (by_stmt near_step x ranges) (near_in rest ranges) (stmt_near x k c ranges e a.0 b.0 d.0) (row_near rest k c ranges e a.1 b.1 d.1)

  list_near : (body : List Stmt) (ranges : List (ℤ × ℤ)) → m + 0 ≡ length ranges → all_of (map (by_stmt (plain_step m)) body) 0 0 ≡ true → all_full (map (by_stmt full_step) body) ≡ true → none_wide_in ranges (flat_map (by_stmt rounds_step) body) ≡ true → all_near (map (by_stmt near_step) body) ranges ≡ true
  list_near body ranges e g f w =
      subst (λ fs. all_near fs ranges ≡ true) (sym (unrolled near_step body))
      (row_near (row_of body) 0 0 ranges e (subst (λ fs. all_of fs 0 0 ≡ true) (unrolled (plain_step m) body) g) (subst (λ bs. all_full bs ≡ true) (unrolled full_step body) f)
      (subst (λ rss. none_wide_in ranges rss ≡ true) (flat_unrolled rounds_step body) w))

-- parameters within 2^24 are within 2^31
params_near : (rs : List (ℤ × ℤ)) → plain_ranges rs ≡ true → near_ranges rs ≡ true
params_near [] h = refl
params_near (r ∷ rs) h =
    let t = both_hold (plain_range r) (plain_ranges rs) h in
    let u = both_hold (int_le r.0 r.1) _ t.0 in
    let v = both_hold (nat_le (nat_abs r.0) (2 ^ 24)) (nat_le (nat_abs r.1) (2 ^ 24)) u.1 in
    hold_both (is_near r.0 && is_near r.1) (near_ranges rs) (hold_both (is_near r.0) (is_near r.1) (near (nat_abs r.0) v.0) (near (nat_abs r.1) v.1)) (params_near rs t.1)
  where
    near : (n : ℕ) → nat_le n (2 ^ 24) ≡ true → nat_le n (2 ^ 31) ≡ true
    near n h = let l : n ≤ 2 ^ 24 = leb-true n (2 ^ 24) h in le-leb n (2 ^ 31) (omega arith)

plain_keeps_near : (program : Program) → IsPlain program → first_wide program ≡ None → IsTrue (keeps_near program)
plain_keeps_near program plain thin =
    let ranges = number_ranges program.params in
    let m = length ranges in
    let same_length : m + 0 ≡ m = omega arith in
    let l : m ≤ 4 = plain.few_numbers in
    hold_both (nat_le m 16) _ (le-leb m 16 (omega arith)) (hold_both (near_ranges ranges) _ (params_near ranges plain.ranges)
    (list_near m plain.few_numbers program.body ranges same_length plain.body plain.full (none_wide ranges 0 (rounds program) thin)))

-- ---- Instances

not_wide_at : (ranges : List (ℤ × ℤ)) (rss : List (List Round)) (n : ℕ) (rs : List Round) → none_wide_in ranges rss ≡ true → slice_get rss n ≡ Some rs → not (is_wide (ranges_of ranges rs)) ≡ true
not_wide_at ranges [] n rs h e = absurd (none-some rs e)
not_wide_at ranges (x ∷ rss) zero rs h e = subst (λ y. not (is_wide (ranges_of ranges y)) ≡ true) (same_Some x rs e) (both_hold (not (is_wide (ranges_of ranges x))) (none_wide_in ranges rss) h).0
not_wide_at ranges (x ∷ rss) (suc n) rs h e = not_wide_at ranges rss n rs (both_hold (not (is_wide (ranges_of ranges x))) (none_wide_in ranges rss) h).1 e

-- iterators within ranges that aren't wide are near
iterators_near : (rs : List Round) (ranges : List (ℤ × ℤ)) (xs : List ℤ) → not (is_wide (ranges_of ranges rs)) ≡ true → AreWithin (ranges_of ranges rs) xs → AreNear xs
iterators_near [] ranges [] h w = tt
iterators_near [] ranges (x ∷ xs) h w = absurd w
iterators_near (Test cond ∷ rs) ranges xs h w = iterators_near rs ranges xs h w
iterators_near (Loop iter low rel high ∷ rs) ranges xs h w =
    let r = range_of ranges low rel high in
    by (int_lt r.1 r.0) (is_near r.0 && is_near r.1) refl (ranges_of (ranges ++ r ∷ []) rs) xs (iterators_near rs (ranges ++ r ∷ [])) h w
  where
    by : (t u : Bool) → (is_near (range_of ranges low rel high).0 && is_near (range_of ranges low rel high).1) ≡ u → (inside : Ranges) (xs : List ℤ)
        → ((ys : List ℤ) → not (is_wide inside) ≡ true → AreWithin inside ys → AreNear ys)
        → not (is_wide (if t then Never else (if not u then Wide 0 else outermost (range_of ranges low rel high) inside))) ≡ true
        → AreWithin (if t then Never else (if not u then Wide 0 else outermost (range_of ranges low rel high) inside)) xs → AreNear xs
    by true u e inside xs f h w = absurd w
    by false false e inside xs f h w = absurd (false≢true h)
    by false true e (Within boxes) [] f h w = absurd w
    by false true e (Within boxes) (x ∷ xs) f h w = (near_between (range_of ranges low rel high).0 (range_of ranges low rel high).1 x w.0 w.1 e, f xs refl w.2)
    by false true e Never xs f h w = absurd w
    by false true e (Wide n) xs f h w = absurd (false≢true h)

near_append : (xs ys : List ℤ) → AreNear xs → AreNear ys → AreNear (xs ++ ys)
near_append [] ys a b = b
near_append (x ∷ xs) ys a b = (a.0, near_append xs ys a.1 b)

-- an instance's names are near, and it is read
instance_reads : (program : Program) (p : List ℤ) (b : Instance) (a : Assignment) → IsPlain program → first_wide program ≡ None → Sits (number_ranges program.params) p
    → IsTrue (within_ranges program.params p) → IsIn b (trace program p) → slice_get (assignments program) b.statement ≡ Some a → ReadsAssignment a (p ++ b.iterators)
instance_reads program p b a plain thin sits within i e =
    let ranges = number_ranges program.params in
    let m = length ranges in
    let t = (instances_turn program p b).0 i in
    let rs : List Round = t.0 in
    let there = assignments_are_plain program plain b.statement rs a t.1 e in
    let least : m ≤ 4 = plain.few_numbers in
    let loops : 0 + loops_in rs ≤ 6 = few_loops m 0 0 rs (omega arith) there.0 in
    let long : length b.iterators ≡ loops_in rs = iterators_of_loops program p b rs i t.1 in
    let params : m ≡ length p = box_length ranges p sits.box in
    let both : length (p ++ b.iterators) ≡ length p + length b.iterators = length_append p b.iterators in
    let names : m + (0 + loops_in rs) ≡ length (p ++ b.iterators) = omega arith in
    let thin_there = not_wide_at ranges (rounds program) b.statement rs (none_wide ranges 0 (rounds program) thin) t.1 in
    let near : Near (p ++ b.iterators) = record { few = omega arith; each = near_append p b.iterators sits.near.each (iterators_near rs ranges b.iterators thin_there (iterators_keep_ranges program p b rs plain within i t.1)) } in
    let h = both_hold (nat_le (length (accesses_of a)) 16) _ there.1 in
    let k = both_hold (all_plain (m + (0 + loops_in rs)) a.subs) (plain_value a.value (m + (0 + loops_in rs))) h.1 in
    record { subs = all_plain_read (m + (0 + loops_in rs)) (p ++ b.iterators) a.subs names near k.0; value = plain_value_read (m + (0 + loops_in rs)) (p ++ b.iterators) a.value names near k.1 }

-- ---- Extents

extents_plain : (n : ℕ) (ds : List Decl) (d : Decl) → IsIn d ds → IsTrue (plain_decls n ds) → IsTrue (all_plain n d.extents)
extents_plain n [] d i h = absurd i
extents_plain n (c ∷ ds) d (inl e) h = subst (λ d. IsTrue (all_plain n d.extents)) (sym e) (both_hold (all_plain n c.extents) (plain_decls n ds) (both_hold (nat_le (length c.extents) 4) _ h).1).0
extents_plain n (c ∷ ds) d (inr i) h = extents_plain n ds d i (both_hold (all_plain n c.extents) (plain_decls n ds) (both_hold (nat_le (length c.extents) 4) _ h).1).1

pub plain_never_overflows : PlainNeverOverflows
plain_never_overflows program p plain thin within =
    let near = plain_keeps_near program plain thin in
    let sits = params_sit program p near within in
    let l : length (number_ranges program.params) ≡ length p = box_length (number_ranges program.params) p sits.box in
    record {
      near = near;
      extents = λ d i. elim (in_append (arrays_of program.params) program.temps d i) [
        | inl j ↦ all_plain_read _ p d.extents l sits.near (extents_plain _ (arrays_of program.params) d j plain.arrays)
        | inr j ↦ all_plain_read _ p d.extents l sits.near (extents_plain _ program.temps d j plain.temps)
      ];
      assignments = λ b a i e. instance_reads program p b a plain thin sits within i e;
    }

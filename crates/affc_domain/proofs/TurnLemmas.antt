-- A program's instances are those whose iterators turn under the loops and conditions round their statements.
use Rattle.std.proofs.Common.{◌≡◌, ℕ, zero, suc, ◌+◌, ℤ, pos, negsuc, ◌+ℤ◌, ◌-ℤ◌, ◌≤ℤ◌, ◌<ℤ◌, Bool, true, false, true≢false, ◌&&◌, if◌then◌else◌, int_le, List, [], ◌∷◌, ◌++◌, length, map, flat_map, sum_by, Some, Ordering, refl, sym, ap, subst, ◌∙◌, ◌⊎◌, inl, inr, arith}
use Rattle.std.specs.Prelude.{slice_get, not}
use Rattle.std.specs.declared.cmp.Ordering.TheVariants as o
use Rattle.std.specs.Ordering.{int_cmp, MatchOrdering}
use Rattle.std.specs.Cmp.{int_ranks}
use Rattle.std.proofs.lemmas.Int.{ints}
use Rattle.std.proofs.lemmas.List.Sums.{sum_by-cons}
use Rattle.std.proofs.lemmas.Option.{none-some, same_Some}
use Rattle.affc_ast.specs.declared.tree.Cond.{Cond}
use Rattle.affc_ast.specs.declared.tree.Instance.{Instance}
use Rattle.affc_ast.specs.declared.tree.Ix.{Ix}
use Rattle.affc_ast.specs.declared.tree.Program.{Program}
use Rattle.affc_ast.specs.declared.tree.Rel.{Rel}
use Rattle.affc_ast.specs.declared.tree.Rel.TheVariants.{Less, LessEqual, Greater, GreaterEqual, Equal, NotEqual}
use Rattle.affc_ast.specs.declared.tree.Stmt.{Stmt}
use Rattle.affc_ast.specs.declared.tree.Stmt.TheVariants as s
use Rattle.affc_ast.specs.declared.tree.Stmt.TheBlock.{Row_of-Stmt, more_of-Stmt, end_of-Stmt}
use Rattle.affc_ast.specs.Fits.{whole, is_true_at}
use Rattle.affc_ast.specs.Meaning.{turns_of, at_least_zero}
use Rattle.affc_ast.specs.Trace.{count_from, walk_step, in_walk_order, assigns_of, trace}
use Rattle.affc_ast.specs.Recursion.{by_stmt, by_each}
use Rattle.affc_ast.proofs.Steps.{row_of, unrolled, flat_unrolled, same_instance}
use Rattle.affc_trace.specs.Law.{IsIn}
use Rattle.affc_trace.proofs.LastStores.{append_nil}
use Rattle.affc_trace.proofs.EndedReads.{append_assoc}
use Rattle.affc_trace.proofs.Runs.{slice_left, slice_right, length_append}
use Rattle.affc_trace.proofs.Once.{in_append, in_flat_map}
use Rattle.affc_trace.proofs.Members.{to_first, to_second, to_flat_map}
use Rattle.affc_domain.specs.Laws.{InstancesTurn}
use Rattle.affc_ast.specs.Denials.{denied}
use Rattle.affc_ast.proofs.DenialLemmas.{denial}
use Rattle.affc_domain.specs.Rounds.{Round, Loop, Test, rounds_step, rounds, goes_on, turns}
use Rattle.affc_domain.proofs.Lists.{both_true, true_both, le_true, true_le, lt_true, true_lt, from_append, from_map, to_mapped, length_map}

-- ---- so many numbers from x on

pub counted_least : (n : ℕ) (x y : ℤ) → IsIn y (count_from n x) → (x ≤ℤ y) × (y <ℤ (x +ℤ pos n))
counted_least zero x y i = absurd i
counted_least (suc n) x y (inl e) = (omega (arith, ints), omega (arith, ints))
counted_least (suc n) x y (inr i) =
    let h = counted_least n (x +ℤ pos 1) y i in
    let l : (x +ℤ pos 1) ≤ℤ y = h.0 in
    let g : y <ℤ ((x +ℤ pos 1) +ℤ pos n) = h.1 in
    (omega (arith, ints), omega (arith, ints))

by_rank : (o : Ordering) (x y : ℤ) → MatchOrdering o (x <ℤ y) (x ≡ y) (y <ℤ x) → x ≤ℤ y → (y ≡ x) ⊎ ((x +ℤ pos 1) ≤ℤ y)
by_rank o.Less x y r l = inr (omega (arith, ints))
by_rank o.Equal x y r l = inl (sym r)
by_rank o.Greater x y r l = absurd (omega (arith, ints))

next : (x y : ℤ) → x ≤ℤ y → (y ≡ x) ⊎ ((x +ℤ pos 1) ≤ℤ y)
next x y l = by_rank (int_cmp x y) x y (int_ranks x y) l

pub to_counted : (n : ℕ) (x y : ℤ) → x ≤ℤ y → y <ℤ (x +ℤ pos n) → IsIn y (count_from n x)
to_counted zero x y l g = absurd (omega (arith, ints))
to_counted (suc n) x y l g = elim (next x y l) [
  | inl e ↦ inl e
  | inr h ↦ inr (to_counted n (x +ℤ pos 1) y h (omega (arith, ints)))
]

pub below : (z x y : ℤ) → x ≤ℤ y → y <ℤ (x +ℤ pos (at_least_zero z)) → y <ℤ (x +ℤ z)
below (pos n) x y l h = h
below (negsuc n) x y l h = absurd (omega (arith, ints))

pub not_below : (z x y : ℤ) → x ≤ℤ y → y <ℤ (x +ℤ z) → y <ℤ (x +ℤ pos (at_least_zero z))
not_below (pos n) x y l h = h
not_below (negsuc n) x y l h = absurd (omega (arith, ints))

-- ---- the turns of a loop

pub turn_goes_on : (rel : Rel) (low high x : ℤ) → IsIn x (count_from (turns_of rel low high) low) → (int_le low x ≡ true) × (goes_on rel x high ≡ true)
turn_goes_on Less low high x i =
    let h = counted_least (at_least_zero (high -ℤ low)) low x i in
    let l : low ≤ℤ x = h.0 in
    let g : x <ℤ (low +ℤ (high -ℤ low)) = below (high -ℤ low) low x h.0 h.1 in
    (le_true low x l, lt_true x high (omega (arith, ints)))
turn_goes_on LessEqual low high x i =
    let h = counted_least (at_least_zero (high +ℤ pos 1 -ℤ low)) low x i in
    let l : low ≤ℤ x = h.0 in
    let g : x <ℤ (low +ℤ (high +ℤ pos 1 -ℤ low)) = below (high +ℤ pos 1 -ℤ low) low x h.0 h.1 in
    (le_true low x l, le_true x high (omega (arith, ints)))
turn_goes_on Greater low high x i = absurd i
turn_goes_on GreaterEqual low high x i = absurd i
turn_goes_on Equal low high x i = absurd i
turn_goes_on NotEqual low high x i = absurd i

pub to_turn : (rel : Rel) (low high x : ℤ) → int_le low x ≡ true → goes_on rel x high ≡ true → IsIn x (count_from (turns_of rel low high) low)
to_turn Less low high x l g =
    let l' : low ≤ℤ x = true_le low x l in
    let g' : x <ℤ high = true_lt x high g in
    let h : x <ℤ (low +ℤ (high -ℤ low)) = omega (arith, ints) in
    to_counted (at_least_zero (high -ℤ low)) low x l' (not_below (high -ℤ low) low x l' h)
to_turn LessEqual low high x l g =
    let l' : low ≤ℤ x = true_le low x l in
    let g' : x ≤ℤ high = true_le x high g in
    let h : x <ℤ (low +ℤ (high +ℤ pos 1 -ℤ low)) = omega (arith, ints) in
    to_counted (at_least_zero (high +ℤ pos 1 -ℤ low)) low x l' (not_below (high +ℤ pos 1 -ℤ low) low x l' h)
to_turn Greater low high x l g = absurd (true≢false (sym g))
to_turn GreaterEqual low high x l g = absurd (true≢false (sym g))
to_turn Equal low high x l g = absurd (true≢false (sym g))
to_turn NotEqual low high x l g = absurd (true≢false (sym g))

abbrev joined_rounds : {n : _} → Row_of-Stmt n → List (List Round)
joined_rounds body = flat_map (λ a. a) (by_each rounds_step body)

module _ (p : List ℤ) where
  mutual
    pub rounds_count : (x : Stmt) → length (by_stmt rounds_step x) ≡ (by_stmt (walk_step p) x).assigns
    rounds_count (s.For' iter low rel high shape body) = length_map (λ rs. Loop iter low rel high ∷ rs) (joined_rounds body) ∙ row_rounds_count body
    rounds_count (s.If' cond shape body shape2 other) =
        length_append (map (λ rs. Test cond ∷ rs) (joined_rounds body)) (map (λ rs. Test (denied cond) ∷ rs) (joined_rounds other))
        ∙ ap (λ n. n + length (map (λ rs. Test (denied cond) ∷ rs) (joined_rounds other))) (length_map (λ rs. Test cond ∷ rs) (joined_rounds body) ∙ row_rounds_count body)
        ∙ ap (λ n. assigns_of (by_each (walk_step p) body) + n) (length_map (λ rs. Test (denied cond) ∷ rs) (joined_rounds other) ∙ row_rounds_count other)
    rounds_count (s.Assign op array subs value) = refl
    rounds_count (s.Block' locals shape body) = row_rounds_count body

    pub row_rounds_count : {n : _} (body : Row_of-Stmt n) → length (flat_map (λ a. a) (by_each rounds_step body)) ≡ sum_by (λ w. w.assigns) (by_each (walk_step p) body)
    row_rounds_count end_of-Stmt = refl
    row_rounds_count (more_of-Stmt x rest) =
        length_append (by_stmt rounds_step x) (joined_rounds rest)
        ∙ ap (λ u. u + length (joined_rounds rest)) (rounds_count x)
        ∙ ap (λ u. (by_stmt (walk_step p) x).assigns + u) (row_rounds_count rest)
        ∙ sym (sum_by-cons (λ w. w.assigns) (by_stmt (walk_step p) x) (by_each (walk_step p) rest))

  -- the iterators of the instance go on from ts and turn under what stands round its statement, where the statements have numbers from k on
  abbrev Runs : List (List Round) → (k : ℕ) → (outer : List ℤ) → Instance → Type 0
  Runs all k ts b = (m : ℕ) × (xs : List ℤ) × (rs : List Round) × (b.statement ≡ k + m) × (b.iterators ≡ ts ++ xs) × (slice_get all m ≡ Some rs) × (turns rs (p ++ ts) xs ≡ true)

  pub in_if : (b : Bool) (a : Instance) (is js : List Instance) → IsIn a (if b then is else js) → ((b ≡ true) × IsIn a is) ⊎ ((not b ≡ true) × IsIn a js)
  in_if true a is js i = inl (refl, i)
  in_if false a is js i = inr (refl, i)

  to_if : (b : Bool) (a : Instance) (is js : List Instance) → b ≡ true → IsIn a is → IsIn a (if b then is else js)
  to_if true a is js e i = i
  to_if false a is js e i = absurd (true≢false (sym e))

  to_else : (b : Bool) (a : Instance) (is js : List Instance) → not b ≡ true → IsIn a js → IsIn a (if b then is else js)
  to_else false a is js e i = i
  to_else true a is js e i = absurd (true≢false (sym e))

  runs_first : (xs ys : List (List Round)) (k : ℕ) (ts : List ℤ) (b : Instance) → Runs xs k ts b → Runs (xs ++ ys) k ts b
  runs_first xs ys k ts b r = (r.0, r.1, r.2, r.3, r.4, slice_left xs ys r.0 r.2 r.5, r.6)

  runs_second : (xs ys : List (List Round)) (k n : ℕ) (ts : List ℤ) (b : Instance) → length xs ≡ n → Runs ys (k + n) ts b → Runs (xs ++ ys) k ts b
  runs_second xs ys k n ts b e r =
      let q : b.statement ≡ (k + n) + r.0 = r.3 in
      (length xs + r.0, r.1, r.2, omega arith, r.4, slice_right xs ys r.0 ∙ r.5, r.6)

  -- behind a test that holds
  runs_test : (cond : Cond) (all : List (List Round)) (k : ℕ) (ts : List ℤ) (b : Instance) → is_true_at cond (p ++ ts) ≡ true → Runs all k ts b → Runs (map (λ rs. Test cond ∷ rs) all) k ts b
  runs_test cond all k ts b h r =
      (r.0, r.1, Test cond ∷ r.2, r.3, r.4, to_mapped (λ rs. Test cond ∷ rs) all r.0 r.2 r.5, true_both (is_true_at cond (p ++ ts)) (turns r.2 (p ++ ts) r.1) h r.6)

  other_count : (cond : Cond) {n : _} (body : Row_of-Stmt n) → length (map (λ rs. Test cond ∷ rs) (joined_rounds body)) ≡ assigns_of (by_each (walk_step p) body)
  other_count cond body = length_map (λ rs. Test cond ∷ rs) (joined_rounds body) ∙ row_rounds_count body

  mutual
    runs : (x : Stmt) (k : ℕ) (ts : List ℤ) (b : Instance) → IsIn b ((by_stmt (walk_step p) x).instances k ts) → Runs (by_stmt rounds_step x) k ts b
    runs (s.For' iter low rel high shape body) k ts b i =
        let h = in_flat_map (λ y. in_walk_order (by_each (walk_step p) body) k (ts ++ y ∷ [])) (count_from (turns_of rel (whole low (p ++ ts)) (whole high (p ++ ts))) (whole low (p ++ ts))) b i in
        let r = row_runs body k (ts ++ h.0 ∷ []) b h.2 in
        let g = turn_goes_on rel (whole low (p ++ ts)) (whole high (p ++ ts)) h.0 h.1 in (
          r.0,
          h.0 ∷ r.1,
          Loop iter low rel high ∷ r.2,
          r.3,
          r.4 ∙ append_assoc ts (h.0 ∷ []) r.1,
          to_mapped (λ rs. Loop iter low rel high ∷ rs) (joined_rounds body) r.0 r.2 r.5,
          true_both (int_le (whole low (p ++ ts)) h.0) (goes_on rel h.0 (whole high (p ++ ts)) && turns r.2 ((p ++ ts) ++ h.0 ∷ []) r.1) g.0
              (true_both (goes_on rel h.0 (whole high (p ++ ts))) (turns r.2 ((p ++ ts) ++ h.0 ∷ []) r.1) g.1
              (ap (λ l. turns r.2 l r.1) (append_assoc p ts (h.0 ∷ [])) ∙ r.6)),
        )
    runs (s.If' cond shape body shape2 other) k ts b i = elim (in_if (is_true_at cond (p ++ ts)) b (in_walk_order (by_each (walk_step p) body) k ts) _ i) [
      | inl h ↦ runs_first (map (λ rs. Test cond ∷ rs) (joined_rounds body)) _ k ts b (runs_test cond (joined_rounds body) k ts b h.0 (row_runs body k ts b h.1))
      | inr h ↦ runs_second (map (λ rs. Test cond ∷ rs) (joined_rounds body)) _ k (assigns_of (by_each (walk_step p) body)) ts b (other_count cond body)
          (runs_test (denied cond) (joined_rounds other) (k + assigns_of (by_each (walk_step p) body)) ts b (denial cond (p ++ ts) ∙ h.0) (row_runs other (k + assigns_of (by_each (walk_step p) body)) ts b h.1))
    ]
    runs (s.Assign op array subs value) k ts b (inl e) = (0, [], [], ap (λ (c : Instance). c.statement) e ∙ omega arith, ap (λ (c : Instance). c.iterators) e ∙ sym (append_nil ts), refl, refl)
    runs (s.Assign op array subs value) k ts b (inr i) = absurd i
    runs (s.Block' locals shape body) k ts b i = row_runs body k ts b i

    row_runs : {n : _} (body : Row_of-Stmt n) (k : ℕ) (ts : List ℤ) (b : Instance) → IsIn b (in_walk_order (by_each (walk_step p) body) k ts) → Runs (flat_map (λ a. a) (by_each rounds_step body)) k ts b
    row_runs end_of-Stmt k ts b i = absurd i
    row_runs (more_of-Stmt x rest) k ts b i = elim (in_append ((by_stmt (walk_step p) x).instances k ts) _ b i) [
      | inl j ↦ runs_first (by_stmt rounds_step x) (joined_rounds rest) k ts b (runs x k ts b j)
      | inr j ↦ runs_second (by_stmt rounds_step x) (joined_rounds rest) k (by_stmt (walk_step p) x).assigns ts b (rounds_count x) (row_runs rest (k + (by_stmt (walk_step p) x).assigns) ts b j)
    ]

  no_more : {ts : List ℤ} (xs : List ℤ) → turns [] (p ++ ts) xs ≡ true → ts ++ xs ≡ ts
  no_more {ts} [] e = append_nil ts
  no_more (x ∷ xs) e = absurd (true≢false (sym e))

  for_run : (iter : List ℕ) (low : Ix) (rel : Rel) (high : Ix) {n : _} (body : Row_of-Stmt n) (k m : ℕ) (ts xs : List ℤ) (rs : List Round) → slice_get (joined_rounds body) m ≡ Some rs
      → ((y : ℤ) (ys : List ℤ) → turns rs (p ++ (ts ++ y ∷ [])) ys ≡ true → IsIn (record { statement = k + m; iterators = (ts ++ y ∷ []) ++ ys }) (in_walk_order (by_each (walk_step p) body) k (ts ++ y ∷ [])))
      → turns (Loop iter low rel high ∷ rs) (p ++ ts) xs ≡ true
      → IsIn (record { statement = k + m; iterators = ts ++ xs })
      (flat_map (λ y. in_walk_order (by_each (walk_step p) body) k (ts ++ y ∷ [])) (count_from (turns_of rel (whole low (p ++ ts)) (whole high (p ++ ts))) (whole low (p ++ ts))))
  for_run iter low rel high body k m ts [] rs e each l = absurd (true≢false (sym l))
  for_run iter low rel high body k m ts (x ∷ xs) rs e each l =
      let f = λ (y : ℤ). in_walk_order (by_each (walk_step p) body) k (ts ++ y ∷ []) in
      let a = both_true (int_le (whole low (p ++ ts)) x) (goes_on rel x (whole high (p ++ ts)) && turns rs ((p ++ ts) ++ x ∷ []) xs) l in
      let b = both_true (goes_on rel x (whole high (p ++ ts))) (turns rs ((p ++ ts) ++ x ∷ []) xs) a.1 in
      to_flat_map f _ x _ (to_turn rel (whole low (p ++ ts)) (whole high (p ++ ts)) x a.0 b.0)
      (subst (λ l. IsIn (record { statement = k + m; iterators = l }) (f x)) (append_assoc ts (x ∷ []) xs)
      (each x xs (ap (λ l. turns rs l xs) (sym (append_assoc p ts (x ∷ []))) ∙ b.1)))

  -- a test that is behind a first one
  under_test : (cond : Cond) (rs : List Round) (all : List (List Round)) (m : ℕ) (ts xs : List ℤ) → slice_get (map (λ rs. Test cond ∷ rs) all) m ≡ Some rs → turns rs (p ++ ts) xs ≡ true
      → (qs : List Round) × (slice_get all m ≡ Some qs) × (is_true_at cond (p ++ ts) ≡ true) × (turns qs (p ++ ts) xs ≡ true)
  under_test cond rs all m ts xs e l =
      let g = from_map (λ rs. Test cond ∷ rs) all m rs e in
      let h = both_true (is_true_at cond (p ++ ts)) (turns g.0 (p ++ ts) xs) (subst (λ hs. turns hs (p ++ ts) xs ≡ true) g.2 l) in
      (g.0, g.1, h.0, h.1)

  mutual
    are_run : (x : Stmt) (k m : ℕ) (ts xs : List ℤ) (rs : List Round) → slice_get (by_stmt rounds_step x) m ≡ Some rs → turns rs (p ++ ts) xs ≡ true
        → IsIn (record { statement = k + m; iterators = ts ++ xs }) ((by_stmt (walk_step p) x).instances k ts)
    are_run (s.For' iter low rel high shape body) k m ts xs rs e l =
        let g = from_map (λ rs. Loop iter low rel high ∷ rs) (joined_rounds body) m rs e in
        for_run iter low rel high body k m ts xs g.0 g.1 (λ y ys h. row_are_run body k m (ts ++ y ∷ []) ys g.0 g.1 h) (subst (λ hs. turns hs (p ++ ts) xs ≡ true) g.2 l)
    are_run (s.If' cond shape body shape2 other) k m ts xs rs e l = elim (from_append (map (λ rs. Test cond ∷ rs) (joined_rounds body)) (map (λ rs. Test (denied cond) ∷ rs) (joined_rounds other)) m rs e) [
      | inl h ↦
          let g = under_test cond rs (joined_rounds body) m ts xs h l in
          to_if (is_true_at cond (p ++ ts)) (record { statement = k + m; iterators = ts ++ xs }) (in_walk_order (by_each (walk_step p) body) k ts) _ g.2 (row_are_run body k m ts xs g.0 g.1 g.3)
      | inr h ↦
          let g = under_test (denied cond) rs (joined_rounds other) h.0 ts xs h.2 l in
          let count : length (map (λ rs. Test cond ∷ rs) (joined_rounds body)) ≡ assigns_of (by_each (walk_step p) body) = other_count cond body in
          let q : m ≡ length (map (λ rs. Test cond ∷ rs) (joined_rounds body)) + h.0 = h.1 in
          let number : (k + assigns_of (by_each (walk_step p) body)) + h.0 ≡ k + m = omega arith in
          to_else (is_true_at cond (p ++ ts)) (record { statement = k + m; iterators = ts ++ xs }) _ _ (sym (denial cond (p ++ ts)) ∙ g.2)
          (subst (λ n. IsIn (record { statement = n; iterators = ts ++ xs }) (in_walk_order (by_each (walk_step p) other) (k + assigns_of (by_each (walk_step p) body)) ts)) number
          (row_are_run other (k + assigns_of (by_each (walk_step p) body)) h.0 ts xs g.0 g.1 g.3))
    ]
    are_run (s.Assign op array subs value) k zero ts xs rs e l =
        inl (same_instance k ts (record { statement = k + 0; iterators = ts ++ xs }) (omega arith) (no_more xs (subst (λ hs. turns hs (p ++ ts) xs ≡ true) (sym (same_Some [] rs e)) l)))
    are_run (s.Assign op array subs value) k (suc m) ts xs rs e l = absurd (none-some rs e)
    are_run (s.Block' locals shape body) k m ts xs rs e l = row_are_run body k m ts xs rs e l

    row_are_run : {n : _} (body : Row_of-Stmt n) (k m : ℕ) (ts xs : List ℤ) (rs : List Round) → slice_get (flat_map (λ a. a) (by_each rounds_step body)) m ≡ Some rs → turns rs (p ++ ts) xs ≡ true
        → IsIn (record { statement = k + m; iterators = ts ++ xs }) (in_walk_order (by_each (walk_step p) body) k ts)
    row_are_run end_of-Stmt k m ts xs rs e l = absurd (none-some rs e)
    row_are_run (more_of-Stmt x rest) k m ts xs rs e l = elim (from_append (by_stmt rounds_step x) (joined_rounds rest) m rs e) [
      | inl h ↦ to_first ((by_stmt (walk_step p) x).instances k ts) _ _ (are_run x k m ts xs rs h l)
      | inr h ↦
          let count : length (by_stmt rounds_step x) ≡ (by_stmt (walk_step p) x).assigns = rounds_count x in
          let q : m ≡ length (by_stmt rounds_step x) + h.0 = h.1 in
          let number : (k + (by_stmt (walk_step p) x).assigns) + h.0 ≡ k + m = omega arith in
          to_second ((by_stmt (walk_step p) x).instances k ts) _ _
          (subst (λ n. IsIn (record { statement = n; iterators = ts ++ xs }) (in_walk_order (by_each (walk_step p) rest) (k + (by_stmt (walk_step p) x).assigns) ts)) number
          (row_are_run rest (k + (by_stmt (walk_step p) x).assigns) h.0 ts xs rs h.2 l))
    ]

  -- from the row of the statements to their list
  list_runs : (body : List Stmt) (k : ℕ) (ts : List ℤ) (b : Instance) → IsIn b (in_walk_order (map (by_stmt (walk_step p)) body) k ts) → Runs (flat_map (by_stmt rounds_step) body) k ts b
  list_runs body k ts b i =
      subst (λ rss. Runs rss k ts b) (sym (flat_unrolled rounds_step body))
      (row_runs (row_of body) k ts b (subst (λ ws. IsIn b (in_walk_order ws k ts)) (unrolled (walk_step p) body) i))

  list_are_run : (body : List Stmt) (k m : ℕ) (ts xs : List ℤ) (rs : List Round) → slice_get (flat_map (by_stmt rounds_step) body) m ≡ Some rs → turns rs (p ++ ts) xs ≡ true
      → IsIn (record { statement = k + m; iterators = ts ++ xs }) (in_walk_order (map (by_stmt (walk_step p)) body) k ts)
  list_are_run body k m ts xs rs e l =
      subst (λ ws. IsIn (record { statement = k + m; iterators = ts ++ xs }) (in_walk_order ws k ts)) (sym (unrolled (walk_step p) body))
      (row_are_run (row_of body) k m ts xs rs (ap (λ rss. slice_get rss m) (sym (flat_unrolled rounds_step body)) ∙ e) l)

pub trace_runs : (program : Program) (p : List ℤ) (b : Instance) → IsIn b (trace program p)
    → (rs : List Round) × (slice_get (rounds program) b.statement ≡ Some rs) × (turns rs p b.iterators ≡ true)
trace_runs program p b i =
    let r = list_runs p program.body 0 [] b i in
    let n : r.0 ≡ b.statement = (let q : b.statement ≡ 0 + r.0 = r.3 in omega arith) in
    (r.2, ap (slice_get (rounds program)) (sym n) ∙ r.5, ap (λ l. turns r.2 l b.iterators) (sym (append_nil p)) ∙ ap (turns r.2 (p ++ [])) r.4 ∙ r.6)

pub trace_has : (program : Program) (p : List ℤ) (k : ℕ) (xs : List ℤ) (rs : List Round) → slice_get (rounds program) k ≡ Some rs → turns rs p xs ≡ true
    → IsIn (record { statement = k; iterators = xs }) (trace program p)
trace_has program p k xs rs e l =
    let n : 0 + k ≡ k = omega arith in
    subst (λ m. IsIn (record { statement = m; iterators = xs }) (trace program p)) n
    (list_are_run p program.body 0 k [] xs rs e (ap (λ q. turns rs q xs) (append_nil p) ∙ l))

pub instances_turn : InstancesTurn
instances_turn program p b = (
  trace_runs program p b,
  λ r. trace_has program p b.statement b.iterators r.0 r.1 r.2,
)

-- Going down through the statements finds how many loops two assignments share.
use Rattle.std.proofs.Common.{◌≡◌, ℕ, zero, suc, ◌+◌, ◌-◌, ◌<◌, ◌≤◌, ◌^◌, Bool, true, false, if◌then◌else◌, List, [], ◌∷◌, ◌++◌, length, map, Some, refl, sym, ap, ◌∙◌, inl, inr, arith}
use Rattle.std.specs.Prelude.{slice_get, nat_eq, nat_lt}
use Rattle.std.proofs.lemmas.Bool.Decides.{nat_tests}
use Rattle.std.proofs.lemmas.List.Sums.{sum_by-cons}
use Rattle.std.proofs.lemmas.Option.{none-some, same_Some, slice_get_within}
use Rattle.affc_ast.specs.declared.tree.Program.{Program}
use Rattle.affc_ast.specs.declared.tree.Stmt.{Stmt}
use Rattle.affc_ast.specs.declared.tree.Stmt.TheVariants as s
use Rattle.affc_ast.specs.declared.tree.Stmt.TheBlock.{Row_of-Stmt, more_of-Stmt, end_of-Stmt}
use Rattle.affc_ast.specs.Recursion.{by_stmt, by_each}
use Rattle.affc_ast.proofs.Steps.{row_of, unrolled}
use Rattle.affc_ast.specs.Trace.{assignments}
use Rattle.affc_trace.proofs.Runs.{length_append}
use Rattle.affc_domain.specs.Loops.{all_loops, in_text_order, numbered_step, loop_numbers, shared}
use Rattle.affc_domain.proofs.Lists.{from_append, from_map, length_map}
use Rattle.affc_domain.proofs.CountLemmas.{numbers_of_each}
use Rattle.affc_domain.proofs.StartLemmas.{shared_none, shared_same, starts, row_starts}
use Rattle.affc_compare.specs.Sharing.{Sharing, assigns_among, in_parts, loops_among, sharing_step, sharing, common_loops}
use Rattle.affc_compare.proofs.NodeLemmas.{HasBranches}

-- ---- Assignments counted

mutual
  counts : (x : Stmt) (first : ℕ) → length ((by_stmt numbered_step x).numbers first) ≡ (by_stmt sharing_step x).assigns
  counts (s.For' iter low rel high shape body) first = length_map (λ ls. first ∷ ls) (in_text_order (by_each numbered_step body) (suc first)) ∙ row_counts body (suc first)
  counts (s.If' cond shape body shape' other) first =
      let next = first + all_loops (by_each numbered_step body) in
      length_append (in_text_order (by_each numbered_step body) first) (in_text_order (by_each numbered_step other) next)
      ∙ ap (λ u. u + length (in_text_order (by_each numbered_step other) next)) (row_counts body first)
      ∙ ap (λ u. assigns_among (by_each sharing_step body) + u) (row_counts other next)
  counts (s.Assign op array subs value) first = refl
  counts (s.Block' locals shape body) first = row_counts body first

  row_counts : {n : _} (body : Row_of-Stmt n) (first : ℕ) → length (in_text_order (by_each numbered_step body) first) ≡ assigns_among (by_each sharing_step body)
  row_counts end_of-Stmt first = refl
  row_counts (more_of-Stmt x rest) first =
      let next = first + (by_stmt numbered_step x).loops in
      length_append ((by_stmt numbered_step x).numbers first) (in_text_order (by_each numbered_step rest) next)
      ∙ ap (λ u. u + length (in_text_order (by_each numbered_step rest) next)) (counts x first)
      ∙ ap (λ u. (by_stmt sharing_step x).assigns + u) (row_counts rest next)
      ∙ sym (sum_by-cons (λ (t : Sharing). t.assigns) (by_stmt sharing_step x) (by_each sharing_step rest))

-- ---- Where two assignments stand

below : (m n : ℕ) → m < n → nat_lt m n ≡ true
below m n h = grind (arith, nat_tests)

behind : (m n : ℕ) → n ≤ m → nat_lt m n ≡ false
behind m n h = grind (arith, nat_tests)

module _ (count : ℕ) (f g : ℕ → ℕ → ℕ) (a b : ℕ) where
  abbrev chosen : Bool → Bool → ℕ
  chosen u v = if u then (if v then f a b else 0) else (if v then 0 else g (a - count) (b - count))

  pub both_here : a < count → b < count → in_parts count f g a b ≡ f a b
  both_here h k = ap (λ u. chosen u (nat_lt b count)) (below a count h) ∙ ap (chosen true) (below b count k)

  pub first_here : a < count → count ≤ b → in_parts count f g a b ≡ 0
  first_here h k = ap (λ u. chosen u (nat_lt b count)) (below a count h) ∙ ap (chosen true) (behind b count k)

  pub second_here : count ≤ a → b < count → in_parts count f g a b ≡ 0
  second_here h k = ap (λ u. chosen u (nat_lt b count)) (behind a count h) ∙ ap (chosen false) (below b count k)

  pub none_here : count ≤ a → count ≤ b → in_parts count f g a b ≡ g (a - count) (b - count)
  none_here h k = ap (λ u. chosen u (nat_lt b count)) (behind a count h) ∙ ap (chosen false) (behind b count k)

  both_behind : (m n : ℕ) → a ≡ count + m → b ≡ count + n → in_parts count f g a b ≡ g m n
  both_behind m n h k = none_here (omega arith) (omega arith) ∙ ap (λ l. g l (b - count)) (left a count m h) ∙ ap (g m) (left b count n k)
    where
      left : (x k m : ℕ) → x ≡ k + m → x - k ≡ m
      left x k m e = omega arith

-- ---- The branches of an `if`

module _ (s : Stmt) (body other : List Stmt) (a b count : ℕ) (is : HasBranches s body other) (n : count ≡ assigns_among (map sharing body)) where
  counted : (sharing s).loops a b ≡ in_parts count (loops_among (map sharing body)) (loops_among (map sharing other)) a b
  counted = is.loops a b ∙ ap (λ k. in_parts k (loops_among (map sharing body)) (loops_among (map sharing other)) a b) (sym n)

  pub in_body : a < count → b < count → (sharing s).loops a b ≡ loops_among (map sharing body) a b
  in_body h k = counted ∙ both_here count (loops_among (map sharing body)) (loops_among (map sharing other)) a b h k

  pub first_in_body : a < count → count ≤ b → (sharing s).loops a b ≡ 0
  first_in_body h k = counted ∙ first_here count (loops_among (map sharing body)) (loops_among (map sharing other)) a b h k

  pub second_in_body : count ≤ a → b < count → (sharing s).loops a b ≡ 0
  second_in_body h k = counted ∙ second_here count (loops_among (map sharing body)) (loops_among (map sharing other)) a b h k

  pub in_other : count ≤ a → count ≤ b → (sharing s).loops a b ≡ loops_among (map sharing other) (a - count) (b - count)
  in_other h k = counted ∙ none_here count (loops_among (map sharing body)) (loops_among (map sharing other)) a b h k

  pub few_of_body : (sharing s).assigns < 2 ^ 32 → assigns_among (map sharing body) < 2 ^ 32
  few_of_body h = let e = is.assigns in omega (arith, e, h)

  pub few_of_other : (sharing s).assigns < 2 ^ 32 → assigns_among (map sharing other) < 2 ^ 32
  few_of_other h = let e = is.assigns in omega (arith, e, h)

-- ---- Shared loops

alone : (i : ℕ) (ls : List ℕ) → slice_get ([] ∷ []) i ≡ Some ls → ls ≡ []
alone zero ls e = sym (same_Some [] ls e)
alone (suc i) ls e = absurd (none-some ls e)

-- in two parts, none of whose loops is shared
parts_share : (count : ℕ) (f g : ℕ → ℕ → ℕ) (us vs : List (List ℕ)) → length us ≡ count
    → ((i j : ℕ) (ls ms : List ℕ) → slice_get us i ≡ Some ls → slice_get us j ≡ Some ms → f i j ≡ shared ls ms)
    → ((i j : ℕ) (ls ms : List ℕ) → slice_get vs i ≡ Some ls → slice_get vs j ≡ Some ms → g i j ≡ shared ls ms)
    → ((i j : ℕ) (ls ms : List ℕ) → slice_get us i ≡ Some ls → slice_get vs j ≡ Some ms → (shared ls ms ≡ 0) × (shared ms ls ≡ 0))
    → (a b : ℕ) (ls ms : List ℕ) → slice_get (us ++ vs) a ≡ Some ls → slice_get (us ++ vs) b ≡ Some ms → in_parts count f g a b ≡ shared ls ms
parts_share count f g us vs c first second none a b ls ms e h = elim (from_append us vs a ls e) [
  | inl i ↦
      let here : a < count = within us a ls count c i in
      elim (from_append us vs b ms h) [
        | inl j ↦ both_here count f g a b here (within us b ms count c j) ∙ first a b ls ms i j
        | inr r ↦ first_here count f g a b here (beyond b r.0 (length us) count c r.1) ∙ sym (none a r.0 ls ms i r.2).0
      ]
  | inr q ↦ elim (from_append us vs b ms h) [
    | inl j ↦ second_here count f g a b (beyond a q.0 (length us) count c q.1) (within us b ms count c j) ∙ sym (none b q.0 ms ls j q.2).1
    | inr r ↦ both_behind count f g a b q.0 r.0 (q.1 ∙ ap (λ k. k + q.0) c) (r.1 ∙ ap (λ k. k + r.0) c) ∙ second q.0 r.0 ls ms q.2 r.2
  ]
]
  where
    within : (xs : List (List ℕ)) (i : ℕ) (ls : List ℕ) (k : ℕ) → length xs ≡ k → slice_get xs i ≡ Some ls → i < k
    within xs i ls k e h = let g = slice_get_within xs i ls h in omega (arith, g, e)

    beyond : (i j n k : ℕ) → n ≡ k → i ≡ n + j → k ≤ i
    beyond i j n k e h = omega arith

mutual
  shares : (x : Stmt) (first a b : ℕ) (ls ms : List ℕ) → slice_get ((by_stmt numbered_step x).numbers first) a ≡ Some ls → slice_get ((by_stmt numbered_step x).numbers first) b ≡ Some ms
      → (by_stmt sharing_step x).loops a b ≡ shared ls ms
  shares (s.For' iter low rel high shape body) first a b ls ms e f =
      let numbers = in_text_order (by_each numbered_step body) (suc first) in
      let u = from_map (λ q. first ∷ q) numbers a ls e in
      let v = from_map (λ q. first ∷ q) numbers b ms f in
      ap suc (row_shares body (suc first) a b u.0 v.0 u.1 v.1) ∙ sym (shared_same first u.0 v.0) ∙ ap (λ z. shared z (first ∷ v.0)) (sym u.2) ∙ ap (shared ls) (sym v.2)
  shares (s.If' cond shape body shape' other) first a b ls ms e f =
      let n = all_loops (by_each numbered_step body) in
      let m = all_loops (by_each numbered_step other) in
      parts_share (assigns_among (by_each sharing_step body)) (loops_among (by_each sharing_step body)) (loops_among (by_each sharing_step other))
      (in_text_order (by_each numbered_step body) first) (in_text_order (by_each numbered_step other) (first + n)) (row_counts body first)
      (λ i j ks os u v. row_shares body first i j ks os u v) (λ i j ks os u v. row_shares other (first + n) i j ks os u v)
      (λ i j ks os u v. shared_none first n m ks os (row_starts body first i ks u) (row_starts other (first + n) j os v)) a b ls ms e f
  shares (s.Assign op array subs value) first a b ls ms e f = ap (λ z. shared z ms) (sym (alone a ls e))
  shares (s.Block' locals shape body) first a b ls ms e f = row_shares body first a b ls ms e f

  row_shares : {n : _} (body : Row_of-Stmt n) (first a b : ℕ) (ls ms : List ℕ) → slice_get (in_text_order (by_each numbered_step body) first) a ≡ Some ls → slice_get (in_text_order (by_each numbered_step body) first) b ≡ Some ms
      → loops_among (by_each sharing_step body) a b ≡ shared ls ms
  row_shares end_of-Stmt first a b ls ms e f = absurd (none-some ls e)
  row_shares (more_of-Stmt x rest) first a b ls ms e f =
      let t : Sharing = by_stmt sharing_step x in
      let ts = by_each sharing_step rest in
      let us = (by_stmt numbered_step x).numbers first in
      let n = (by_stmt numbered_step x).loops in
      let m = all_loops (by_each numbered_step rest) in
      let vs = in_text_order (by_each numbered_step rest) (first + n) in
      parts_share t.assigns t.loops (loops_among ts) us vs (counts x first) (λ i j ks os u v. shares x first i j ks os u v) (λ i j ks os u v. row_shares rest (first + n) i j ks os u v)
      (λ i j ks os u v. shared_none first n m ks os (starts x first i ks u) (row_starts rest (first + n) j os v)) a b ls ms e f

-- ---- Programs

pub common_is_shared : (program : Program) (a b : ℕ) (ls ms : List ℕ) → slice_get (loop_numbers program) a ≡ Some ls → slice_get (loop_numbers program) b ≡ Some ms → common_loops program a b ≡ shared ls ms
common_is_shared program a b ls ms e f =
    let numbers = unrolled numbered_step program.body in
    ap (λ ts. loops_among ts a b) (unrolled sharing_step program.body)
    ∙ row_shares (row_of program.body) 0 a b ls ms (sym (ap (λ ns. slice_get (in_text_order ns 0) a) numbers) ∙ e) (sym (ap (λ ns. slice_get (in_text_order ns 0) b) numbers) ∙ f)

pub assigns_are_counted : (program : Program) → assigns_among (map sharing program.body) ≡ length (assignments program)
assigns_are_counted program =
    ap assigns_among (unrolled sharing_step program.body) ∙ sym (row_counts (row_of program.body) 0) ∙ sym (ap (λ ns. length (in_text_order ns 0)) (unrolled numbered_step program.body)) ∙ numbers_of_each program

pub shared_turned : (ls ms : List ℕ) → shared ls ms ≡ shared ms ls
shared_turned [] [] = refl
shared_turned [] (m ∷ ms) = refl
shared_turned (l ∷ ls) [] = refl
shared_turned (l ∷ ls) (m ∷ ms) = ap (λ t. if t then suc (shared ls ms) else 0) (eq_turned l m) ∙ ap (λ n. if nat_eq m l then suc n else 0) (shared_turned ls ms)
  where
    eq_turned : (m n : ℕ) → nat_eq m n ≡ nat_eq n m
    eq_turned m n = grind (arith, nat_tests)

-- The comparison by shared loops is the order of the text.
use Rattle.std.proofs.Common.{◌≡◌, ℕ, zero, suc, ◌+◌, ◌<◌, ◌≤◌, ◌^◌, ℤ, pos, ◌+ℤ◌, ◌≤ℤ◌, Bool, true, false, cond, List, [], ◌∷◌, length, take, refl, sym, ap, subst, ◌∙◌, ◌⊎◌, inl, inr, arith, Ordering}
use Rattle.std.specs.Prelude.{nat_lt, ◌==◌, ◌↔◌}
use Rattle.std.specs.declared.cmp.Ordering.TheVariants as ord
use Rattle.std.specs.Ordering.{ordering_then, nat_cmp, int_cmp}
use Rattle.std.specs.Cmp.{IsTotalOrder, int_cmp_total, nat_cmp_total, then_total, on_total, tied_itself}
use Rattle.std.specs.Cmp.Lexicographic.{slice_cmp, lists_total}
use Rattle.std.specs.FinMap.{int_cmp-IsAntisymmetric}
use Rattle.std.proofs.lemmas.Bool.Decides.{nat_tests}
use Rattle.affc_ast.specs.declared.tree.Instance.{Instance}
use Rattle.affc_ast.specs.declared.tree.Program.{Program}
use Rattle.affc_ast.specs.Trace.{trace}
use Rattle.affc_trace.specs.Law.{IsIn}
use Rattle.affc_trace.specs.Orders.{Earlier}
use Rattle.affc_domain.specs.Loops.{IsBefore, shared}
use Rattle.affc_domain.specs.Plain.{IsPlain}
use Rattle.affc_domain.specs.Ranges.{number_ranges}
use Rattle.affc_domain.specs.Rounds.{loops_in}
use Rattle.affc_domain.proofs.CountLemmas.{iterators_of_loops}
use Rattle.affc_domain.proofs.PlainLemmas.{few_loops, rounds_are_plain}
use Rattle.affc_domain.proofs.TurnLemmas.{instances_turn}
use Rattle.affc_domain.proofs.OrderLemmas.{has_loops, one_each, order_of_the_text, before_tie, shared_left, shared_right}
use Rattle.affc_domain.proofs.Lists.{int_less, less_int}
use Rattle.affc_compare.specs.Sharing.{common_loops}
use Rattle.affc_compare.specs.Source.{loops_cmp, source_cmp, HaveLoops}
use Rattle.affc_compare.proofs.SharedLemmas.{common_is_shared, assigns_are_counted, shared_turned}

-- ---- Comparisons

nat_less : (m n : ℕ) → nat_cmp m n ≡ ord.Less → m < n
nat_less m n h = chosen (nat_lt m n) refl h
  where
    below : (m n : ℕ) → nat_lt m n ≡ true → m < n
    below m n e = grind (arith, nat_tests)

    other : (u : Bool) → cond u ord.Equal ord.Greater ≡ ord.Less → ⊥
    other true h = cc
    other false h = cc

    chosen : (t : Bool) → nat_lt m n ≡ t → cond t ord.Less (cond (m == n) ord.Equal ord.Greater) ≡ ord.Less → m < n
    chosen true e h = below m n e
    chosen false e h = absurd (other (m == n) h)

less_nat : (m n : ℕ) → m < n → nat_cmp m n ≡ ord.Less
less_nat m n h = ap (λ t. cond t ord.Less (cond (m == n) ord.Equal ord.Greater)) (below m n h)
  where
    below : (m n : ℕ) → m < n → nat_lt m n ≡ true
    below m n h = grind (arith, nat_tests)

-- by the first so many numbers, and then this
less_before : (n : ℕ) (xs ys : List ℤ) (r : Ordering) → n ≤ length xs → n ≤ length ys → ordering_then (slice_cmp int_cmp (take n xs) (take n ys)) r ≡ ord.Less → IsBefore n xs ys (r ≡ ord.Less)
less_before zero xs ys r e f h = h
less_before (suc n) [] ys r e f h = absurd (omega arith)
less_before (suc n) (x ∷ xs) [] r e f h = absurd (omega arith)
less_before (suc n) (x ∷ xs) (y ∷ ys) r e f h = by_first (int_cmp x y) refl (less_before n xs ys r (omega (arith, e)) (omega (arith, f))) h
  where
    by_first : (o : Ordering) → int_cmp x y ≡ o → (ordering_then (slice_cmp int_cmp (take n xs) (take n ys)) r ≡ ord.Less → IsBefore n xs ys (r ≡ ord.Less))
        → ordering_then (ordering_then o (slice_cmp int_cmp (take n xs) (take n ys))) r ≡ ord.Less → ((x +ℤ pos 1) ≤ℤ y) ⊎ ((x ≡ y) × IsBefore n xs ys (r ≡ ord.Less))
    by_first ord.Less q rest h = inl (int_less x y q)
    by_first ord.Equal q rest h = inr (int_cmp-IsAntisymmetric x y q, rest h)
    by_first ord.Greater q rest h = absurd (cc)

before_less : (n : ℕ) (xs ys : List ℤ) (r : Ordering) → n ≤ length xs → n ≤ length ys → IsBefore n xs ys (r ≡ ord.Less) → ordering_then (slice_cmp int_cmp (take n xs) (take n ys)) r ≡ ord.Less
before_less zero xs ys r e f h = h
before_less (suc n) [] ys r e f h = absurd (omega arith)
before_less (suc n) (x ∷ xs) [] r e f h = absurd (omega arith)
before_less (suc n) (x ∷ xs) (y ∷ ys) r e f (inl h) = ap (λ o. ordering_then (ordering_then o (slice_cmp int_cmp (take n xs) (take n ys))) r) (less_int x y h)
before_less (suc n) (x ∷ xs) (y ∷ ys) r e f (inr q) =
    ap (λ o. ordering_then (ordering_then o (slice_cmp int_cmp (take n xs) (take n ys))) r) (ap (int_cmp x) (sym q.0) ∙ tied_itself int_cmp_total x)
    ∙ before_less n xs ys r (omega (arith, e)) (omega (arith, f)) q.1

pub loops_cmp_total : (n : ℕ) → IsTotalOrder (loops_cmp n)
loops_cmp_total n = then_total (on_total (λ (a : Instance). take n a.iterators) (lists_total int_cmp_total)) (on_total (λ (a : Instance). a.statement) nat_cmp_total)

-- ---- Two instances

pub few_iterators : (program : Program) (p : List ℤ) (a : Instance) → IsPlain program → IsIn a (trace program p) → length a.iterators ≤ 6
few_iterators program p a plain i =
    let t = (instances_turn program p a).0 i in
    let long : length a.iterators ≡ loops_in t.0 = iterators_of_loops program p a t.0 i t.1 in
    let few : 0 + loops_in t.0 ≤ 6 = few_loops (length (number_ranges program.params)) 0 0 t.0 (omega arith) (rounds_are_plain program plain a.statement t.0 t.1) in
    omega (arith, long, few)

at_most : (k s m l : ℕ) → k ≡ s → s ≤ m → m ≡ l → k ≤ l
at_most k s m l e h f = omega (arith, e, h, f)

module _ (program : Program) (p : List ℤ) (a b : Instance) (i : IsIn a (trace program p)) (j : IsIn b (trace program p)) where
  abbrev n : ℕ
  n = common_loops program a.statement b.statement

  shares : n ≡ shared (has_loops program p a i).0 (has_loops program p b j).0
  shares = let u = has_loops program p a i in let v = has_loops program p b j in common_is_shared program a.statement b.statement u.0 v.0 u.1 v.1

  first_long : n ≤ length a.iterators
  first_long =
      let u = has_loops program p a i in
      let v = has_loops program p b j in
      at_most _ _ _ _ shares (shared_left u.0 v.0) (one_each program p a u.0 i u.1)

  second_long : n ≤ length b.iterators
  second_long =
      let u = has_loops program p a i in
      let v = has_loops program p b j in
      at_most _ _ _ _ shares (shared_right u.0 v.0) (one_each program p b v.0 j v.1)

  -- less by the shared loops is earlier in the trace
  pub less_is_earlier : (source_cmp program a b ≡ ord.Less) ↔ Earlier (trace program p) a b
  less_is_earlier =
      let u = has_loops program p a i in
      let v = has_loops program p b j in
      let r = nat_cmp a.statement b.statement in
      let law = order_of_the_text program p a b u.0 v.0 i j u.1 v.1 in (
        λ h. law.1 (subst (λ k. IsBefore k a.iterators b.iterators (a.statement < b.statement)) shares
            (before_tie n a.iterators b.iterators (r ≡ ord.Less) (a.statement < b.statement) (nat_less a.statement b.statement) (less_before n a.iterators b.iterators r first_long second_long h))),
        λ e. before_less n a.iterators b.iterators r first_long second_long
            (before_tie n a.iterators b.iterators (a.statement < b.statement) (r ≡ ord.Less) (less_nat a.statement b.statement)
            (subst (λ k. IsBefore k a.iterators b.iterators (a.statement < b.statement)) (sym shares) (law.0 e))),
      )

  -- the same loops are shared the other way round
  pub common_turned : n ≡ common_loops program b.statement a.statement
  common_turned =
      let u = has_loops program p a i in
      let v = has_loops program p b j in
      shares ∙ shared_turned u.0 v.0 ∙ sym (common_is_shared program b.statement a.statement v.0 u.0 v.1 u.1)

  pub have_loops : IsPlain program → HaveLoops program a b
  have_loops plain = record {
    few = fewer _ _ (assigns_are_counted program) plain.few_assignments;
    first = first_long;
    second = second_long;
    shallow = shallow _ _ first_long (few_iterators program p a plain i);
  }
    where
      fewer : (k m : ℕ) → k ≡ m → m ≤ 64 → k < 2 ^ 32
      fewer k m e h = omega (arith, e, h)

      shallow : (k m : ℕ) → k ≤ m → m ≤ 6 → k < 2 ^ 32
      shallow k m h g = omega (arith, h, g)

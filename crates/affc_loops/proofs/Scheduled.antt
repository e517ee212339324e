-- The statements that are printed, and how many loops stand round each.
use Rattle.std.proofs.Common.{◌≡◌, ℕ, zero, suc, ◌+◌, ◌<◌, ℤ, List, [], ◌∷◌, ◌++◌, length, map, flat_map, Option, Some, None, refl, sym, ap, subst, ◌∙◌, inl, inr, arith}
use Rattle.std.specs.Prelude.{slice_get}
use Rattle.std.specs.declared.cmp.Ordering.TheVariants.{Less}
use Rattle.std.specs.Cmp.{nat_cmp_is}
use Rattle.std.specs.Ordering.{nat_cmp}
use Rattle.std.proofs.lemmas.Option.{none-some, same_Some}
use Rattle.affc_ast.specs.declared.tree.Program.{Program}
use Rattle.affc_ast.specs.declared.tree.Stmt.{Stmt}
use Rattle.affc_ast.specs.declared.tree.Stmt.TheVariants as s
use Rattle.affc_ast.specs.declared.tree.Stmt.TheBlock.{Row_of-Stmt, more_of-Stmt, end_of-Stmt}
use Rattle.affc_ast.specs.Denials.{denied}
use Rattle.affc_ast.specs.Recursion.{by_stmt, by_each}
use Rattle.affc_ast.specs.Trace.{Assignment}
use Rattle.affc_trace.specs.declared.schedule.TimeMap.{TimeMap}
use Rattle.affc_trace.specs.Law.{IsIn}
use Rattle.affc_trace.specs.declared.schedule.Schedule.TheVariants.{Time}
use Rattle.affc_trace.specs.Target.{each_round, loops_step, loops_round, numbers_in, IsMapOf, IsScheduleOf}
use Rattle.affc_trace.proofs.Ordered.{map_of}
use Rattle.affc_trace.proofs.LastStores.{map_append}
use Rattle.affc_trace.proofs.Earliers.{Rises}
use Rattle.affc_domain.specs.Rounds.{Round, Loop, Test, rounds_step, rounds as all_rounds}
use Rattle.affc_domain.proofs.Lists.{to_mapped}
use Rattle.affc_loops.specs.Loops.{Scheduled, scheduled_from, loop_names}

-- ---- as many loops as names

abbrev deep : ℕ → List Round → ℕ
deep depth gs = depth + length (loop_names gs)

deeper : (depth : ℕ) (rss : List (List Round)) (f : List Round → List Round) → ((gs : List Round) → deep depth (f gs) ≡ deep (suc depth) gs) → map (deep (suc depth)) rss ≡ map (deep depth) (map f rss)
deeper depth [] f e = refl
deeper depth (gs ∷ rss) f e = ap (λ n. n ∷ map (deep (suc depth)) rss) (sym (e gs)) ∙ ap (λ l. deep depth (f gs) ∷ l) (deeper depth rss f e)

as_deep : (depth : ℕ) (rss : List (List Round)) (f : List Round → List Round) → ((gs : List Round) → deep depth (f gs) ≡ deep depth gs) → map (deep depth) rss ≡ map (deep depth) (map f rss)
as_deep depth [] f e = refl
as_deep depth (gs ∷ rss) f e = ap (λ n. n ∷ map (deep depth) rss) (sym (e gs)) ∙ ap (λ l. deep depth (f gs) ∷ l) (as_deep depth rss f e)

mutual
  rounds : (x : Stmt) (depth : ℕ) → by_stmt loops_step x depth ≡ map (deep depth) (by_stmt rounds_step x)
  rounds (s.For' iter low rel high shape body) depth =
      row_rounds body (suc depth) ∙ deeper depth (flat_map (λ a. a) (by_each rounds_step body)) (λ gs. Loop iter low rel high ∷ gs) (λ gs. omega arith)
  rounds (s.If' cond shape body shape' other) depth =
      let first = flat_map (λ a. a) (by_each rounds_step body) in
      let second = flat_map (λ a. a) (by_each rounds_step other) in
      ap (λ l. l ++ each_round (by_each loops_step other) depth) (row_rounds body depth ∙ as_deep depth first (λ gs. Test cond ∷ gs) (λ gs. refl))
      ∙ ap (λ l. map (deep depth) (map (λ gs. Test cond ∷ gs) first) ++ l) (row_rounds other depth ∙ as_deep depth second (λ gs. Test (denied cond) ∷ gs) (λ gs. refl))
      ∙ sym (map_append (deep depth) (map (λ gs. Test cond ∷ gs) first) (map (λ gs. Test (denied cond) ∷ gs) second))
  rounds (s.Assign op array subs value) depth = let e : depth ≡ depth + 0 = omega arith in ap (λ n. n ∷ []) e
  rounds (s.Block' locals shape body) depth = row_rounds body depth

  row_rounds : {n : _} (body : Row_of-Stmt n) (depth : ℕ) → each_round (by_each loops_step body) depth ≡ map (deep depth) (flat_map (λ a. a) (by_each rounds_step body))
  row_rounds end_of-Stmt depth = refl
  row_rounds (more_of-Stmt x rest) depth =
      ap (λ l. l ++ each_round (by_each loops_step rest) depth) (rounds x depth)
      ∙ ap (λ l. map (deep depth) (by_stmt rounds_step x) ++ l) (row_rounds rest depth)
      ∙ sym (map_append (deep depth) (by_stmt rounds_step x) (flat_map (λ a. a) (by_each rounds_step rest)))

list_rounds : (body : List Stmt) (depth : ℕ) → each_round (map (by_stmt loops_step) body) depth ≡ map (deep depth) (flat_map (by_stmt rounds_step) body)
list_rounds [] depth = refl
list_rounds (x ∷ rest) depth =
    ap (λ l. l ++ each_round (map (by_stmt loops_step) rest) depth) (rounds x depth)
    ∙ ap (λ l. map (deep depth) (by_stmt rounds_step x) ++ l) (list_rounds rest depth)
    ∙ sym (map_append (deep depth) (by_stmt rounds_step x) (flat_map (by_stmt rounds_step) rest))

pub loops_of_rounds : (program : Program) → loops_round program ≡ map (λ gs. length (loop_names gs)) (all_rounds program)
loops_of_rounds program = list_rounds program.body 0 ∙ at_none (all_rounds program)
  where
    at_none : (rss : List (List Round)) → map (deep 0) rss ≡ map (λ gs. length (loop_names gs)) rss
    at_none [] = refl
    at_none (gs ∷ rss) = let n : deep 0 gs ≡ length (loop_names gs) = omega arith in ap (λ m. m ∷ map (deep 0) rss) n ∙ ap (λ l. length (loop_names gs) ∷ l) (at_none rss)

pub loops_are : (program : Program) (k : ℕ) (gs : List Round) → slice_get (all_rounds program) k ≡ Some gs → slice_get (loops_round program) k ≡ Some (length (loop_names gs))
loops_are program k gs e = ap (λ l. slice_get l k) (loops_of_rounds program) ∙ to_mapped (λ gs. length (loop_names gs)) (all_rounds program) k gs e

-- the shape of a statement's times
pub shape_of : (source : Program) (n : ℕ) (maps : List TimeMap) → IsScheduleOf source (Time n maps) → (k : ℕ) (gs : List Round) (m : TimeMap)
    → slice_get (all_rounds source) k ≡ Some gs → slice_get maps k ≡ Some m → IsMapOf (numbers_in source.params) (length (loop_names gs)) n m
shape_of source n maps schedule k gs m e f =
    let r = map_of (numbers_in source.params) n (loops_round source) maps schedule k (length (loop_names gs)) (loops_are source k gs e) in
    subst (IsMapOf (numbers_in source.params) (length (loop_names gs)) n) (same_Some r.0 m (sym r.1 ∙ f)) r.2

-- ---- which statements are scheduled

pub record IsScheduledAt (k : ℕ) (rss : List (List Round)) (as' : List Assignment) (ms : List TimeMap) (boxes : List (Option (List (ℤ × ℤ)))) (e : Scheduled) : Type 0 where
  pub at : ℕ
  pub number : e.statement ≡ k + at
  pub its_guards : slice_get rss at ≡ Some e.around
  pub its_assignment : slice_get as' at ≡ Some e.assignment
  pub its_times : slice_get ms at ≡ Some e.times
  pub its_ranges : slice_get boxes at ≡ Some (Some e.ranges)

later : (k : ℕ) (gs : List Round) (rss : List (List Round)) (a : Assignment) (as' : List Assignment) (m : TimeMap) (ms : List TimeMap) (b : Option (List (ℤ × ℤ))) (boxes : List (Option (List (ℤ × ℤ)))) (e : Scheduled)
    → IsScheduledAt (suc k) rss as' ms boxes e → IsScheduledAt k (gs ∷ rss) (a ∷ as') (m ∷ ms) (b ∷ boxes) e
later k gs rss a as' m ms b boxes e h = record {
  at = suc h.at;
  number = (let q : e.statement ≡ suc k + h.at = h.number in omega arith);
  its_guards = h.its_guards;
  its_assignment = h.its_assignment;
  its_times = h.its_times;
  its_ranges = h.its_ranges;
}

pub is_scheduled_at : (k : ℕ) (rss : List (List Round)) (as' : List Assignment) (ms : List TimeMap) (boxes : List (Option (List (ℤ × ℤ)))) (e : Scheduled)
    → IsIn e (scheduled_from k rss as' ms boxes) → IsScheduledAt k rss as' ms boxes e
is_scheduled_at k [] as' ms boxes e i = absurd i
is_scheduled_at k (gs ∷ rss) [] ms boxes e i = absurd i
is_scheduled_at k (gs ∷ rss) (a ∷ as') [] boxes e i = absurd i
is_scheduled_at k (gs ∷ rss) (a ∷ as') (m ∷ ms) [] e i = absurd i
is_scheduled_at k (gs ∷ rss) (a ∷ as') (m ∷ ms) (Some rs ∷ boxes) e (inl q) = record {
  at = 0;
  number = (let n : k ≡ k + 0 = omega arith in ap (λ (p : Scheduled). p.statement) q ∙ n);
  its_guards = ap (λ (p : Scheduled). Some p.around) (sym q);
  its_assignment = ap (λ (p : Scheduled). Some p.assignment) (sym q);
  its_times = ap (λ (p : Scheduled). Some p.times) (sym q);
  its_ranges = ap (λ (p : Scheduled). Some (Some p.ranges)) (sym q);
}
is_scheduled_at k (gs ∷ rss) (a ∷ as') (m ∷ ms) (Some rs ∷ boxes) e (inr i) = later k gs rss a as' m ms (Some rs) boxes e (is_scheduled_at (suc k) rss as' ms boxes e i)
is_scheduled_at k (gs ∷ rss) (a ∷ as') (m ∷ ms) (None ∷ boxes) e i = later k gs rss a as' m ms None boxes e (is_scheduled_at (suc k) rss as' ms boxes e i)

pub has_scheduled : (k : ℕ) (rss : List (List Round)) (as' : List Assignment) (ms : List TimeMap) (boxes : List (Option (List (ℤ × ℤ)))) (n : ℕ) (gs : List Round) (a : Assignment) (m : TimeMap) (rs : List (ℤ × ℤ))
    → slice_get rss n ≡ Some gs → slice_get as' n ≡ Some a → slice_get ms n ≡ Some m → slice_get boxes n ≡ Some (Some rs)
    → IsIn (record { statement = k + n; around = gs; assignment = a; times = m; ranges = rs }) (scheduled_from k rss as' ms boxes)
has_scheduled k [] as' ms boxes n gs a m rs e f g h = absurd (none-some gs e)
has_scheduled k (gs' ∷ rss) [] ms boxes n gs a m rs e f g h = absurd (none-some a f)
has_scheduled k (gs' ∷ rss) (a' ∷ as') [] boxes n gs a m rs e f g h = absurd (none-some m g)
has_scheduled k (gs' ∷ rss) (a' ∷ as') (m' ∷ ms) [] n gs a m rs e f g h = absurd (none-some (Some rs) h)
has_scheduled k (gs' ∷ rss) (a' ∷ as') (m' ∷ ms) (Some rs' ∷ boxes) zero gs a m rs e f g h =
    let number : k + 0 ≡ k = omega arith in
    let es = same_Some gs' gs e in
    let fs = same_Some a' a f in
    let gs' = same_Some m' m g in
    let hs = same_Some rs' rs (same_Some (Some rs') (Some rs) h) in
    inl (λ i. record { statement = number i; around = sym es i; assignment = sym fs i; times = sym gs' i; ranges = sym hs i })
has_scheduled k (gs' ∷ rss) (a' ∷ as') (m' ∷ ms) (None ∷ boxes) zero gs a m rs e f g h = absurd (none-some rs (same_Some None (Some rs) h))
has_scheduled k (gs' ∷ rss) (a' ∷ as') (m' ∷ ms) (Some rs' ∷ boxes) (suc n) gs a m rs e f g h =
    let number : suc k + n ≡ k + suc n = omega arith in
    inr (subst (λ j. IsIn (record { statement = j; around = gs; assignment = a; times = m; ranges = rs }) (scheduled_from (suc k) rss as' ms boxes)) number
    (has_scheduled (suc k) rss as' ms boxes n gs a m rs e f g h))
has_scheduled k (gs' ∷ rss) (a' ∷ as') (m' ∷ ms) (None ∷ boxes) (suc n) gs a m rs e f g h =
    let number : suc k + n ≡ k + suc n = omega arith in
    subst (λ j. IsIn (record { statement = j; around = gs; assignment = a; times = m; ranges = rs }) (scheduled_from (suc k) rss as' ms boxes)) number
    (has_scheduled (suc k) rss as' ms boxes n gs a m rs e f g h)

less : (x y : ℕ) → x < y → nat_cmp x y ≡ Less
less x y h = sym (nat_cmp_is x y Less h)

pub scheduled_rise : (k : ℕ) (rss : List (List Round)) (as' : List Assignment) (ms : List TimeMap) (boxes : List (Option (List (ℤ × ℤ))))
    → Rises (λ (e f : Scheduled). nat_cmp e.statement f.statement) (scheduled_from k rss as' ms boxes)
scheduled_rise k [] as' ms boxes a b e = absurd e
scheduled_rise k (gs ∷ rss) [] ms boxes a b e = absurd e
scheduled_rise k (gs ∷ rss) (c ∷ as') [] boxes a b e = absurd e
scheduled_rise k (gs ∷ rss) (c ∷ as') (m ∷ ms) [] a b e = absurd e
scheduled_rise k (gs ∷ rss) (c ∷ as') (m ∷ ms) (Some rs ∷ boxes) a b (inl e) =
    let h = is_scheduled_at (suc k) rss as' ms boxes b e.1 in
    let q : a.statement ≡ k = ap (λ (p : Scheduled). p.statement) e.0 in
    let r : b.statement ≡ suc k + h.at = h.number in
    less a.statement b.statement (omega arith)
scheduled_rise k (gs ∷ rss) (c ∷ as') (m ∷ ms) (Some rs ∷ boxes) a b (inr e) = scheduled_rise (suc k) rss as' ms boxes a b e
scheduled_rise k (gs ∷ rss) (c ∷ as') (m ∷ ms) (None ∷ boxes) a b e = scheduled_rise (suc k) rss as' ms boxes a b e

-- The loops of programs whose statements stand under the same loops and conditions.
use Rattle.std.proofs.Common.{◌≡◌, ℕ, suc, ℤ, ◌&&◌, Bool, true, IsTrue, List, [], ◌∷◌, length, map, Option, Some, None, refl, sym, ap, subst, ◌∙◌, arith}
use Rattle.std.specs.Prelude.{false, int_le, slice_get}
use Rattle.affc_ast.specs.declared.tree.Param.{Param}
use Rattle.affc_ast.specs.declared.tree.Param.TheVariants.{Number, Array}
use Rattle.affc_ast.specs.declared.tree.Program.{Program}
use Rattle.affc_ast.specs.Fits.{within_ranges}
use Rattle.affc_ast.specs.Trace.{Assignment, assignments}
use Rattle.affc_trace.specs.declared.schedule.TimeMap.{TimeMap}
use Rattle.affc_trace.specs.Target.{AreMapsOf, loops_round, numbers_in}
use Rattle.affc_domain.specs.Ranges.{number_ranges, ranges_of}
use Rattle.affc_domain.specs.Rounds.{Round, rounds}
use Rattle.affc_domain.proofs.PlainLemmas.{rounds_of_each}
use Rattle.affc_domain.proofs.TurnLemmas.{instances_turn}
use Rattle.affc_domain.proofs.RangeLemmas.{numbers_are}
use Rattle.affc_loops.specs.Laws.{HaveSameLoops}
use Rattle.affc_loops.specs.Loops.{Scheduled, box_in, boxes, scheduled_from, scheduled, times_of, time_ranges, loop_names}
use Rattle.affc_loops.specs.Spans.{hulls}
use Rattle.affc_loops.proofs.Boxed.{Encloses, Small}
use Rattle.affc_loops.proofs.Scheduled.{loops_of_rounds}

-- ---- The same times and ranges

abbrev pub AreAlike : List Scheduled → List Scheduled → Type 0
AreAlike [] [] = Unit {0}
AreAlike [] (f ∷ fs) = ⊥
AreAlike (e ∷ es) [] = ⊥
AreAlike (e ∷ es) (f ∷ fs) = (e.times ≡ f.times) × (e.ranges ≡ f.ranges) × AreAlike es fs

pub alike : (k : ℕ) (rss : List (List Round)) (as' bs : List Assignment) (ms : List TimeMap) (boxes : List (Option (List (ℤ × ℤ)))) → length as' ≡ length bs → AreAlike (scheduled_from k rss as' ms boxes) (scheduled_from k rss bs ms boxes)
alike k [] as' bs ms boxes l = tt
alike k (rs ∷ rss) [] [] ms boxes l = tt
alike k (rs ∷ rss) [] (b ∷ bs) ms boxes l = absurd (omega (arith, l))
alike k (rs ∷ rss) (a ∷ as') [] ms boxes l = absurd (omega (arith, l))
alike k (rs ∷ rss) (a ∷ as') (b ∷ bs) [] boxes l = tt
alike k (rs ∷ rss) (a ∷ as') (b ∷ bs) (m ∷ ms) [] l = tt
alike k (rs ∷ rss) (a ∷ as') (b ∷ bs) (m ∷ ms) (Some box ∷ boxes) l = (refl, refl, alike (suc k) rss as' bs ms boxes (omega (arith, l)))
alike k (rs ∷ rss) (a ∷ as') (b ∷ bs) (m ∷ ms) (None ∷ boxes) l = alike (suc k) rss as' bs ms boxes (omega (arith, l))

pub alike_times : (params : List (ℤ × ℤ)) (e f : Scheduled) → e.times ≡ f.times → e.ranges ≡ f.ranges → times_of params e ≡ times_of params f
alike_times params e f t r = ap (λ (m : TimeMap). times_of params (record e { times = m })) t ∙ ap (λ b. times_of params (record e { times = f.times; ranges = b })) r

alike_ranges : (params : List (ℤ × ℤ)) (es fs : List Scheduled) → AreAlike es fs → time_ranges params es ≡ time_ranges params fs
alike_ranges params [] [] h = refl
alike_ranges params [] (f ∷ fs) h = absurd h
alike_ranges params (e ∷ es) [] h = absurd h
alike_ranges params (e ∷ []) (f ∷ []) h = alike_times params e f h.0 h.1
alike_ranges params (e ∷ []) (f ∷ f' ∷ fs) h = absurd h.2
alike_ranges params (e ∷ e' ∷ es) (f ∷ []) h = absurd h.2
alike_ranges params (e ∷ e' ∷ es) (f ∷ f' ∷ fs) h =
    ap (λ l. hulls l (time_ranges params (e' ∷ es))) (alike_times params e f h.0 h.1) ∙ ap (hulls (times_of params f)) (alike_ranges params (e' ∷ es) (f' ∷ fs) h.2)

none_alike : (es fs : List Scheduled) → AreAlike es fs → fs ≡ [] → es ≡ []
none_alike [] fs h e = refl
none_alike (e ∷ es) [] h q = absurd h
none_alike (e ∷ es) (f ∷ fs) h q = absurd (no_entries f fs q)
  where
    no_entries : (x : Scheduled) (xs : List Scheduled) → (x ∷ xs) ≡ [] → ⊥
    no_entries x xs e = let l = ap length e in absurd (omega (arith, l))

-- ---- The ranges of the parameters alone

abbrev in_each : List (ℤ × ℤ) → List ℤ → Bool
in_each [] [] = true
in_each (r ∷ rs) (x ∷ xs) = int_le r.0 x && int_le x r.1 && in_each rs xs
in_each _ _ = false

by_ranges : (ps : List Param) (p : List ℤ) → within_ranges ps p ≡ in_each (number_ranges ps) p
by_ranges [] [] = refl
by_ranges [] (x ∷ xs) = refl
by_ranges (Number name low high ∷ ps) [] = refl
by_ranges (Number name low high ∷ ps) (x ∷ xs) = ap (λ b. int_le low x && int_le x high && b) (by_ranges ps xs)
by_ranges (Array decl ∷ ps) xs = by_ranges ps xs

-- ---- What the two programs share

module _ (source other : Program) (same : HaveSameLoops source other) where
  abbrev box_by : List (ℤ × ℤ) → List Round → Option (List (ℤ × ℤ))
  box_by params rs = box_in (ranges_of params rs)

  pub boxes_same : boxes other ≡ boxes source
  boxes_same = ap (λ r. map (box_by r) (rounds other)) same.same_ranges ∙ ap (map (box_by (number_ranges source.params))) same.same_rounds

  pub numbers_same : numbers_in other.params ≡ numbers_in source.params
  numbers_same = numbers_are other.params ∙ ap length same.same_ranges ∙ sym (numbers_are source.params)

  loops_same : loops_round other ≡ loops_round source
  loops_same = loops_of_rounds other ∙ ap (map (λ rs. length (loop_names rs))) same.same_rounds ∙ sym (loops_of_rounds source)

  pub within_same : (p : List ℤ) → IsTrue (within_ranges source.params p) → IsTrue (within_ranges other.params p)
  within_same p h = by_ranges other.params p ∙ ap (λ rs. in_each rs p) same.same_ranges ∙ sym (by_ranges source.params p) ∙ h

  pub schedule_same : (n : ℕ) (maps : List TimeMap) → AreMapsOf (numbers_in source.params) n (loops_round source) maps → AreMapsOf (numbers_in other.params) n (loops_round other) maps
  schedule_same n maps h =
      subst (λ m. AreMapsOf m n (loops_round other) maps) (sym numbers_same) (subst (λ ls. AreMapsOf (numbers_in source.params) n ls maps) (sym loops_same) h)

  pub scheduled_alike : (maps : List TimeMap) → AreAlike (scheduled other maps) (scheduled source maps)
  scheduled_alike maps =
      let count = rounds_of_each source in
      let counted = rounds_of_each other in
      let both = ap length same.same_rounds in
      subst (λ rss. AreAlike (scheduled_from 0 rss (assignments other) maps (boxes other)) (scheduled source maps)) (sym same.same_rounds)
      (subst (λ bs. AreAlike (scheduled_from 0 (rounds source) (assignments other) maps bs) (scheduled source maps)) (sym boxes_same)
      (alike 0 (rounds source) (assignments other) (assignments source) maps (boxes source) (omega (arith, count, counted, both))))

  pub scheduled_none : (maps : List TimeMap) → scheduled source maps ≡ [] → scheduled other maps ≡ []
  scheduled_none maps e = none_alike (scheduled other maps) (scheduled source maps) (scheduled_alike maps) e

  pub times_same : (maps : List TimeMap) → time_ranges (number_ranges other.params) (scheduled other maps) ≡ time_ranges (number_ranges source.params) (scheduled source maps)
  times_same maps = ap (λ r. time_ranges r (scheduled other maps)) same.same_ranges ∙ alike_ranges (number_ranges source.params) _ _ (scheduled_alike maps)

  pub encloses_same : (p : List ℤ) → Encloses source (boxes source) p → Encloses other (boxes other) p
  encloses_same p h a i =
      let t = (instances_turn other p a).0 i in
      let b = h a ((instances_turn source p a).1 (t.0, ap (λ rss. slice_get rss a.statement) (sym same.same_rounds) ∙ t.1, t.2)) in
      (b.0, ap (λ bs. slice_get bs a.statement) boxes_same ∙ b.1, b.2)

  pub small_same : (maps : List TimeMap) (bs : List (Option (List (ℤ × ℤ)))) (ranges : List (ℤ × ℤ)) (p : List ℤ) → Small source maps bs ranges p → Small other maps bs ranges p
  small_same maps bs ranges p h = record {
    ranges_small = h.ranges_small;
    boxes_small = h.boxes_small;
    one_each = λ k box rs e f. h.one_each k box rs e (ap (λ rss. slice_get rss k) (sym same.same_rounds) ∙ f);
    times_small = h.times_small;
    inverse_small = h.inverse_small;
  }

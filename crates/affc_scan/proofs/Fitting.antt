-- The statements under the loops of a plain source can be printed, within the limits of its schedule.
use Rattle.std.proofs.Common.{◌≡◌, ℕ, suc, ◌+◌, ◌-◌, ◌^◌, ◌≤◌, ℤ, ◌≤ℤ◌, List, [], ◌∷◌, ◌++◌, length, get_or, map, refl, sym, ap, subst, ◌∙◌, inl, inr, arith}
use Rattle.std.specs.Prelude.{slice_get}
use Rattle.std.specs.List.{All}
use Rattle.std.proofs.lemmas.Int.{ints}
use Rattle.std.proofs.lemmas.List.Elements.{All-nil, All-cons, All-head, All-tail}
use Rattle.std.proofs.lemmas.Option.{same_Some}
use Rattle.affc_rows.specs.Forms.{Affine, columns_of}
use Rattle.affc_ast.specs.declared.tree.Program.{Program}
use Rattle.affc_system.specs.Boxes.{IsBox, IsRange, InBox}
use Rattle.affc_ast.specs.Trace.{Assignment, assignments}
use Rattle.affc_trace.specs.declared.schedule.TimeMap.{TimeMap}
use Rattle.affc_trace.specs.declared.schedule.Schedule.TheVariants.{Time}
use Rattle.affc_trace.specs.Law.{IsIn}
use Rattle.affc_rows.proofs.SizeLemmas.{within_raised}
use Rattle.affc_trace.specs.Target.{numbers_in}
use Rattle.affc_trace.proofs.Runs.{length_append}
use Rattle.affc_domain.specs.Ranges.{number_ranges}
use Rattle.affc_domain.specs.Rounds.{rounds, loops_in}
use Rattle.affc_domain.proofs.PlainLemmas.{rounds_are_plain, few_loops}
use Rattle.affc_domain.proofs.Lists.{stands_in}
use Rattle.affc_domain.proofs.RangeLemmas.{numbers_are}
use Rattle.affc_nest.specs.Sides.{IsSide, NearRanges}
use Rattle.affc_loops.specs.Laws.{HasLoops, HaveSameLoops, AreTimeRanges}
use Rattle.affc_loops.specs.Limits.{IsSlight, IsSmall}
use Rattle.affc_loops.specs.Loops.{Scheduled, boxes, scheduled, loop_names, time_ranges}
use Rattle.affc_loops.proofs.Boxes.{sits, near_box, params_ordered}
use Rattle.affc_loops.proofs.Guards.{names_count}
use Rattle.affc_loops.proofs.BetweenLaws.{few, slight, some_or_none}
use Rattle.affc_loops.proofs.Scheduled.{is_scheduled_at, shape_of}
use Rattle.affc_loops.proofs.SameLoops.{boxes_same, scheduled_none, times_same}
use Rattle.affc_loops.proofs.Sizes.{Within, map_within, near_within, params_within, ranges_within, spans, times_are}
use Rattle.affc_loops.proofs.TimeRanges.{Spans}
use Rattle.affc_scan.specs.Blocks.{IsPrintable}
use Rattle.affc_scan.specs.InSight.{IsInSight}
use Rattle.affc_scan.specs.Numbered.{HasSpans, AllPrintable, AllSpan}
use Rattle.affc_scan.proofs.SightProofs.{rounds_sight}

near_ranges_of : (most : ℕ) (rs : List (ℤ × ℤ)) → most ≤ 2 ^ 32 → All (Within most) rs → NearRanges rs
near_ranges_of most [] l h = tt
near_ranges_of most (r ∷ rs) l h =
    let w : Within most r = h 0 r (omega arith) in
    (omega (arith, w.0), omega (arith, w.1), near_ranges_of most rs l (λ i x k. h (suc i) x (omega arith)))

near_append : (rs ss : List (ℤ × ℤ)) → NearRanges rs → NearRanges ss → NearRanges (rs ++ ss)
near_append [] ss h g = g
near_append (r ∷ rs) ss h g = (h.0, h.1, near_append rs ss h.2 g)

side_of : (n : ℕ) (f : Affine) → length f.coefs ≡ n → IsSlight f → IsSide n f
side_of n f l s = within_raised n 256 (2 ^ 30) (2 ^ 16) (2 ^ 32) f (omega arith) (omega arith) (record { width = l; coefs_fit = s.0; constant_fits = s.1 })

-- the low ends of a box are a point of it
low_point : (rs : List (ℤ × ℤ)) → IsBox rs → InBox rs (map (λ r. r.0) rs)
low_point [] o = tt
low_point (r ∷ rs) o = (same r.0, All-head IsRange r rs o, low_point rs (All-tail IsRange r rs o))
  where
    same : (z : ℤ) → z ≤ℤ z
    same z = omega (arith, ints)

-- where a box has a point, its ends are in order
box_ordered : (rs : List (ℤ × ℤ)) (xs : List ℤ) → InBox rs xs → IsBox rs
box_ordered [] xs b = All-nil IsRange
box_ordered (r ∷ rs) [] b = absurd b
box_ordered (r ∷ rs) (x ∷ xs) b = All-cons IsRange r rs (through r.0 x r.1 b.0 b.1) (box_ordered rs xs b.2)
  where
    through : (a b c : ℤ) → a ≤ℤ b → b ≤ℤ c → a ≤ℤ c
    through a b c h k = omega (arith, ints)

module _ (source other : Program) (n : ℕ) (maps : List TimeMap) (h : HasLoops source (Time n maps)) (same : HaveSameLoops source other) (sight : (a : Assignment) → IsIn a (assignments other) → IsInSight a) where
  abbrev params : List (ℤ × ℤ)
  params = number_ranges source.params

  pub fits_one : (e : Scheduled) → IsIn e (scheduled other maps) → IsPrintable (length params) e × HasSpans params e
  fits_one e i =
      let few_params : length params ≤ 4 = (h.plain).few_numbers in
      let k = is_scheduled_at 0 (rounds other) (assignments other) maps (boxes other) e i in
      let here = ap (λ l. slice_get l k.at) (sym same.same_rounds) ∙ k.its_guards in
      let s = sits source k.at e.ranges (ap (λ l. slice_get l k.at) (sym (boxes_same source other same)) ∙ k.its_ranges) in
      let b = near_box params s.around e.ranges s.is_box in
      let rs = rounds_are_plain source h.plain k.at e.around here in
      let shape = shape_of source n maps h.scheduled k.at e.around e.times here k.its_times in
      let within = map_within maps k.at e.times (slight source n maps h) k.its_times in
      let loops : 0 + loops_in e.around ≤ 6 = few_loops (length params) 0 0 e.around (omega arith) rs in
      let around : s.around ≡ e.around = same_Some s.around e.around (sym s.its_rounds ∙ here) in
      let long : length e.ranges ≡ loops_in e.around = b.long ∙ ap loops_in around in
      let names : length (loop_names e.around) ≡ loops_in e.around = names_count e.around in
      let c : columns_of e.times.forms ≡ numbers_in source.params + length (loop_names e.around) = shape.columns in
      let f : length e.times.forms ≡ n = shape.components in
      let g : length e.times.inverse ≡ length (loop_names e.around) = shape.iterators in
      let q : numbers_in source.params ≡ length params = numbers_are source.params in
      let most : n ≤ 12 = few source n maps h in
      let box_within = near_within e.ranges b.near in
      let both : length (params ++ e.ranges) ≡ length params + length e.ranges = length_append params e.ranges in
      let wide : columns_of e.times.forms ≡ length (params ++ e.ranges) = omega arith in (
        record {
          around = rounds_sight (length params) 0 0 e.around few_params (omega arith) rs;
          few_loops = omega arith;
          assignment = sight e.assignment (stands_in (assignments other) k.at e.assignment k.its_assignment);
          ranges = λ j r l. let w : Within (2 ^ 31) (get_or e.ranges j r) = box_within j r l in (omega (arith, w.0), omega (arith, w.1));
          few_ranges = omega arith;
          slight = within.forms;
          columns = λ j x l. let w : length (get_or e.times.forms j x).coefs ≡ columns_of e.times.forms = e.times.shaped j x l in (omega arith, omega arith);
          few_forms = omega arith;
          inverse_slight = within.inverse;
          inverse_columns = λ j x l.
              let w : length (get_or e.times.inverse j x).coefs ≡ columns_of e.times.forms - length e.times.inverse + length e.times.forms = e.times.inverse_shaped j x l in
              (omega arith, omega arith);
        },
        record {
          ordered = b.ordered;
          few = omega arith;
          near = near_append params e.ranges (near_ranges_of (2 ^ 24) params (omega arith) (params_within params (h.plain).ranges)) (near_ranges_of (2 ^ 31) e.ranges (omega arith) box_within);
          sides = λ j x l. side_of (length (params ++ e.ranges)) (get_or e.times.forms j x) (e.times.shaped j x l ∙ wide) (within.forms j x l);
        },
      )

  all_printable_from : (es : List Scheduled) → ((e : Scheduled) → IsIn e es → IsIn e (scheduled other maps)) → AllPrintable (length params) es
  all_printable_from [] i = tt
  all_printable_from (e ∷ es) i = ((fits_one e (i e (inl refl))).0, all_printable_from es (λ f j. i f (inr j)))

  all_span_from : (es : List Scheduled) → ((e : Scheduled) → IsIn e es → IsIn e (scheduled other maps)) → AllSpan params es
  all_span_from [] i = tt
  all_span_from (e ∷ es) i = ((fits_one e (i e (inl refl))).1, all_span_from es (λ f j. i f (inr j)))

  pub all_printable : AllPrintable (length params) (scheduled other maps)
  all_printable = all_printable_from (scheduled other maps) (λ e i. i)

  pub all_span : AllSpan params (scheduled other maps)
  all_span = all_span_from (scheduled other maps) (λ e i. i)

  ranges_are : time_ranges params (scheduled other maps) ≡ time_ranges params (scheduled source maps)
  ranges_are = ap (λ r. time_ranges r (scheduled other maps)) (sym same.same_ranges) ∙ times_same source other same maps

  own_small : All IsSmall (time_ranges params (scheduled source maps))
  own_small = λ i r l.
      let w : Within _ (get_or (time_ranges params (scheduled source maps)) i r) = ranges_within source n maps h.plain h.near h.scheduled (few source n maps h) (slight source n maps h) i r l in
      (omega (arith, w.0), omega (arith, w.1))

  pub ranges_small : All IsSmall (time_ranges params (scheduled other maps))
  ranges_small = subst (All IsSmall) (sym ranges_are) own_small

  own_ordered : IsBox (time_ranges params (scheduled source maps))
  own_ordered =
      let short = few source n maps h in
      let within = slight source n maps h in
      by (scheduled source maps) refl (spans source n maps h.plain h.near h.scheduled short within) (times_are source n maps h.plain h.near h.scheduled short within)
    where
      by : (es : List Scheduled) → scheduled source maps ≡ es → ((e : Scheduled) → IsIn e (scheduled source maps) → Spans params n e) → AreTimeRanges params (scheduled source maps) (time_ranges params (scheduled source maps))
          → IsBox (time_ranges params (scheduled source maps))
      by [] q s t = subst IsBox (sym (ap (time_ranges params) q)) (All-nil IsRange)
      by (e ∷ es) q s t =
          let i : IsIn e (scheduled source maps) = subst (IsIn e) (sym q) (inl refl) in
          box_ordered (time_ranges params (scheduled source maps)) _
          (t.hold e i (map (λ r. r.0) params) (map (λ r. r.0) e.ranges) (low_point params (params_ordered params (h.plain).ranges)) (low_point e.ranges (s e i).ordered))

  pub ranges_ordered : IsBox (time_ranges params (scheduled other maps))
  ranges_ordered = subst IsBox (sym ranges_are) own_ordered

  pub ranges_long : (e : Scheduled) → IsIn e (scheduled other maps) → length (time_ranges params (scheduled other maps)) ≡ n
  ranges_long e i =
      elim (some_or_none source n maps h) [
        | inl none ↦ absurd (subst (IsIn e) (scheduled_none source other same maps none) i)
        | inr long ↦ ap length ranges_are ∙ long
      ]

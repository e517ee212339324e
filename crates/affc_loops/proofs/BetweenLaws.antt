-- What loops between ends do that hold the times.
use Rattle.std.proofs.Common.{◌≡◌, ℕ, ◌+◌, ◌≤◌, ℤ, true, ◌&&◌, IsTrue, List, [], ◌∷◌, ◌++◌, length, map, sum_by, Some, refl, sym, ap, subst, ◌∙◌, ◌⊎◌, inl, inr, arith}
use Rattle.std.specs.Prelude.{slice_get, nat_le}
use Rattle.std.specs.List.{All}
use Rattle.std.proofs.lemmas.List.Elements.{All-nil}
use Rattle.std.proofs.lemmas.Bool.{leb-true}
use Rattle.affc_ast.specs.declared.tree.Ix.{Ix}
use Rattle.affc_ast.specs.declared.tree.Program.{Program}
use Rattle.affc_ast.specs.Fits.{within_ranges}
use Rattle.affc_ast.specs.Index.{nodes_of_compare}
use Rattle.affc_ast.specs.Meaning.{State, Position, meaning, arrays_of, all_extents, nodes_of_decls}
use Rattle.affc_ast.specs.Store.{Store}
use Rattle.affc_ast.specs.Trace.{assignments, trace}
use Rattle.affc_ast.specs.Values.{Scope}
use Rattle.affc_system.specs.Boxes.{InBox}
use Rattle.affc_trace.specs.declared.schedule.Schedule.TheVariants.{Time}
use Rattle.affc_trace.specs.declared.schedule.TimeMap.{TimeMap}
use Rattle.affc_trace.specs.Dataflow.{unshared}
use Rattle.affc_trace.specs.Effects.{effect, effects}
use Rattle.affc_trace.specs.Law.{IsIn, placed}
use Rattle.affc_trace.specs.Laws.{RunsTarget}
use Rattle.affc_trace.specs.Target.{target, in_order_of, time_cmp, numbers_in, loops_round, maps_within, IsScheduleOf}
use Rattle.affc_trace.proofs.Depths.{depth}
use Rattle.affc_trace.proofs.Ordered.{map_of}
use Rattle.affc_trace.proofs.Composed.{compiles_source}
use Rattle.affc_trace.proofs.LastStores.{map_append}
use Rattle.affc_trace.proofs.Members.{no_members, to_first, to_second}
use Rattle.affc_domain.specs.Arrays.{declared_arrays, extents_at}
use Rattle.affc_domain.specs.Ranges.{number_ranges}
use Rattle.affc_domain.specs.Rounds.{Round, rounds}
use Rattle.affc_domain.proofs.Lists.{both_true}
use Rattle.affc_domain.proofs.PlainLemmas.{has_assignment, rounds_are_plain}
use Rattle.affc_domain.proofs.RangeLemmas.{in_ranges, numbers_are}
use Rattle.affc_domain.proofs.TurnLemmas.{instances_turn}
use Rattle.affc_safe.specs.Overflow.{NeverOverflows}
use Rattle.affc_safe.specs.Safe.{HasExtents, KeepsWithin}
use Rattle.affc_safe.proofs.Along.{ReadAlong}
use Rattle.affc_safe.proofs.EndedSafe.{ended_is_safe}
use Rattle.affc_safe.proofs.PlainNear.{plain_has_no_locals, plain_never_overflows}
use Rattle.affc_safe.proofs.SafeLaws.{all_read, wants_unwritten}
use Rattle.affc_safe.proofs.Walk.{params_sit}
use Rattle.affc_safe.proofs.Wants.{Wants, wants_ended, wants_reading}
use Rattle.affc_loops.specs.Between.{body_between, program_between, RunWithin, HoldTimes}
use Rattle.affc_loops.specs.Laws.{HasLoops, HaveSameLoops, BetweenDoTarget, BetweenRunTarget, BetweenCompile, RangesOfTimes}
use Rattle.affc_loops.specs.Limits.{IsSmall}
use Rattle.affc_loops.specs.Loops.{Scheduled, boxes, scheduled, time_ranges}
use Rattle.affc_loops.proofs.Boxed.{Encloses, Small, box_length}
use Rattle.affc_loops.proofs.Boxes.{sits, near_box, encloses, params_ordered}
use Rattle.affc_loops.proofs.Does.{does}
use Rattle.affc_loops.proofs.Guards.{see_outwards, plain_outwards}
use Rattle.affc_loops.proofs.NestEffects.{done_by}
use Rattle.affc_loops.proofs.Scheduled.{has_scheduled}
use Rattle.affc_loops.proofs.PlainAlong.{plain_along, kept_at}
use Rattle.affc_loops.proofs.PrintedRuns.{run_all, body_wants}
use Rattle.affc_loops.proofs.SameLoops.{boxes_same, numbers_same, within_same, schedule_same, scheduled_none, times_same, encloses_same, small_same}
use Rattle.affc_loops.proofs.Sizes.{spans, times_are, is_small}
use Rattle.affc_loops.proofs.TimeRanges.{ranges_long}

module _ (source : Program) (n : ℕ) (maps : List TimeMap) (h : HasLoops source (Time n maps)) where
  pub few : n ≤ 12
  few = leb-true n 12 (both_true (nat_le 1 n) (nat_le n 12) (both_true (nat_le 1 n && nat_le n 12) (maps_within maps) h.limits).0).1

  pub slight : IsTrue (maps_within maps)
  slight = (both_true (nat_le 1 n && nat_le n 12) (maps_within maps) h.limits).1

  pub some_or_none : (scheduled source maps ≡ []) ⊎ (length (time_ranges (number_ranges source.params) (scheduled source maps)) ≡ n)
  some_or_none = by (scheduled source maps) refl
    where
      params : List (ℤ × ℤ)
      params = number_ranges source.params

      by : (es : List Scheduled) → scheduled source maps ≡ es → (scheduled source maps ≡ []) ⊎ (length (time_ranges params (scheduled source maps)) ≡ n)
      by [] e = inl e
      by (x ∷ es) e =
          inr (subst (λ fs. length (time_ranges params fs) ≡ n) (sym e)
          (ranges_long params n (params_ordered params (h.plain).ranges) x es (λ f i. spans source n maps h.plain h.near h.scheduled few slight f (subst (IsIn f) (sym e) i))))

-- the loops of a program whose statements stand under the loops and conditions of a plain source
module _ (source other : Program) (n : ℕ) (maps : List TimeMap) (h : HasLoops source (Time n maps)) (same : HaveSameLoops source other) where
  abbrev params : List (ℤ × ℤ)
  params = number_ranges source.params

  abbrev all : List Scheduled
  all = scheduled other maps

  abbrev ranges : List (ℤ × ℤ)
  ranges = time_ranges (number_ranges other.params) all

  abbrev own_ranges : List (ℤ × ℤ)
  own_ranges = time_ranges params (scheduled source maps)

  ranges_are : ranges ≡ own_ranges
  ranges_are = times_same source other same maps

  none_or_long : (all ≡ []) ⊎ (length ranges ≡ n)
  none_or_long = elim (some_or_none source n maps h) [ inl e ↦ inl (scheduled_none source other same maps e) | inr l ↦ inr (ap length ranges_are ∙ l) ]

  module _ (p : List ℤ) (within : IsTrue (within_ranges source.params p)) where
    pub box : InBox params p
    box = in_ranges source.params p within

    same_length : length params ≡ length p
    same_length = sym (box_length params p box)

    pub numbers : length p ≡ numbers_in other.params
    numbers = box_length params p box ∙ sym (numbers_are source.params) ∙ sym (numbers_same source other same)

    its_rounds : (k : ℕ) (rs : List Round) → slice_get (rounds other) k ≡ Some rs → slice_get (rounds source) k ≡ Some rs
    its_rounds k rs e = ap (λ rss. slice_get rss k) (sym same.same_rounds) ∙ e

    outwards : (k : ℕ) (rs : List Round) → slice_get (rounds other) k ≡ Some rs → see_outwards (length p) rs ≡ true
    outwards k rs e =
        let l : length params ≡ length p = same_length in
        let z : length params + 0 ≡ length p = omega arith in
        ap (λ m. see_outwards m rs) (sym z) ∙ plain_outwards (length params) 0 0 rs (rounds_are_plain source h.plain k rs (its_rounds k rs e))

    pub is_schedule : IsScheduleOf other (Time n maps)
    is_schedule = schedule_same source other same n maps h.scheduled

    pub enclosed : Encloses other (boxes other) p
    enclosed = encloses_same source other same p (encloses source p h.plain h.near within)

    sizes : length ranges ≡ n → Small other maps (boxes other) ranges p
    sizes l =
        subst (λ bs. Small other maps bs ranges p) (sym (boxes_same source other same))
        (subst (λ rs. Small other maps (boxes source) rs p) (sym ranges_are)
        (small_same source other same maps (boxes source) own_ranges p
        (is_small source n maps h.plain h.near h.scheduled (few source n maps h) (slight source n maps h) (ap length (sym ranges_are) ∙ l) p box)))

    -- where none is scheduled there are no instances
    none : all ≡ [] → trace other p ≡ []
    none e = no_members (trace other p) (λ a i.
        let t = (instances_turn other p a).0 i in
        let b = enclosed a i in
        let s = has_assignment other a.statement t.0 t.1 in
        let m = map_of (numbers_in other.params) n (loops_round other) maps is_schedule a.statement (length a.iterators) (depth other p a i) in
        subst (IsIn (record { statement = 0 + a.statement; around = t.0; assignment = s.0; times = m.0; ranges = b.0 })) e
        (has_scheduled 0 (rounds other) (assignments other) maps (boxes other) a.statement t.0 s.0 m.0 b.0 t.1 s.1 m.1 b.1))

    -- where none is scheduled there are no ranges
    no_ranges : all ≡ [] → ranges ≡ []
    no_ranges e = ap (time_ranges (number_ranges other.params)) e

    pub ranges_small : All IsSmall ranges
    ranges_small = elim none_or_long [
      | inl e ↦ subst (All IsSmall) (sym (no_ranges e)) (All-nil IsSmall)
      | inr l ↦ (sizes l).ranges_small
    ]

    module _ (ends : List (Ix × Ix)) (times : HoldTimes other maps ends p) where
      -- ---- what the loops do

      pub does_at : effects (program_between other maps ends) p ≡ map (placed (λ x. x) (effect other p)) (target other (Time n maps) p)
      does_at = elim none_or_long [
        | inl e ↦
            ap (λ es. done_by (body_between (numbers_in other.params) ends es) p) e
            ∙ sym (ap (λ is. map (placed (λ x. x) (effect other p)) (in_order_of (time_cmp maps p) is)) (none e))
        | inr l ↦ does other n maps ends (boxes other) p is_schedule numbers (times.one_each ∙ l) outwards enclosed times.hold
      ]

      -- ---- how they run

      module _ (safe : NeverOverflows other p) (extents : HasExtents other p) (keeps : KeepsWithin other p) where
        along : (k : ℕ) (rs : List Round) (b : List (ℤ × ℤ)) → slice_get (rounds other) k ≡ Some rs → slice_get (boxes other) k ≡ Some (Some b) → (xs : List ℤ) → InBox b xs → ReadAlong rs p xs
        along k rs b e f xs i =
            let s = sits source k b (ap (λ bs. slice_get bs k) (sym (boxes_same source other same)) ∙ f) in
            let near = near_box params s.around b s.is_box in
            let l : length params ≡ length p = same_length in
            let z : length params + 0 ≡ length p = omega arith in
            plain_along (length params) 0 0 rs b p xs (h.plain).few_numbers (rounds_are_plain source h.plain k rs (its_rounds k rs e)) z
            (params_sit other p safe.near (within_same source other same p within)).near i near.near

        statements_want : (all ≡ []) ⊎ (length ranges ≡ n)
            → (scope : Scope) → scope.names ≡ p → scope.extents ≡ extents_at (declared_arrays other) p → (here : Position) (u : State)
            → Wants (run_all (body_between (numbers_in other.params) ends all) here scope u)
        statements_want (inl e) scope a b here u = subst (λ es. Wants (run_all (body_between (numbers_in other.params) ends es) here scope u)) (sym e) (wants_ended u)
        statements_want (inr l) scope a b here u =
            body_wants other n maps ranges ends (boxes other) p is_schedule numbers (times.one_each ∙ l) times.one_each outwards enclosed times.hold times.run
            (sizes l) (extents_at (declared_arrays other) p) along (kept_at other p safe keeps) scope a b here u

        pub wants : (store : Store) → Wants (meaning (program_between other maps ends) p store)
        wants store =
            let start : State = record { store = store; written = []; steps = 0 } in
            let place : Position = record { node = nodes_of_decls (arrays_of other.params) + sum_by nodes_of_compare other.context + nodes_of_decls other.temps; statement = 0 } in
            let given : List (List ℤ) = extents_at (arrays_of other.params) p in
            let own : List (List ℤ) = extents_at other.temps p in
            let together : given ++ own ≡ extents_at (declared_arrays other) p = sym (map_append _ (arrays_of other.params) other.temps) in
            wants_reading (all_extents 0 (arrays_of other.params) 0 p) given start _
            (all_read p (arrays_of other.params) (λ d i. safe.extents d (to_first (arrays_of other.params) other.temps d i)) (λ d e i j. extents d e (to_first (arrays_of other.params) other.temps d i) j) 0 0)
            (wants_reading (all_extents (length (arrays_of other.params)) other.temps _ p) own start _
            (all_read p other.temps (λ d i. safe.extents d (to_second (arrays_of other.params) other.temps d i)) (λ d e i j. extents d e (to_second (arrays_of other.params) other.temps d i) j) _ _)
            (statements_want none_or_long (record { names = p; iterators = []; extents = given ++ own }) refl together place start))

        pub runs_at : (store : Store) → RunsTarget (program_between other maps ends) other (Time n maps) (λ x. x) p store
        runs_at store = record {
          does = does_at;
          only_unwritten = λ cause steps e. wants_unwritten _ cause steps (wants store) e;
        }

-- ---- ends that hold the times of a source hold those of a program with its loops

pub hold_same : (source other : Program) → HaveSameLoops source other → (maps : List TimeMap) (ends : List (Ix × Ix)) (p : List ℤ) → HoldTimes source maps ends p → HoldTimes other maps ends p
hold_same source other same maps ends p times = record {
  one_each = times.one_each ∙ ap length (sym (times_same source other same maps));
  run = subst (λ ranges. RunWithin ranges ends p) (sym (times_same source other same maps)) times.run;
  hold = λ a i.
      let t = (instances_turn other p a).0 i in
      times.hold a ((instances_turn source p a).1 (t.0, ap (λ rss. slice_get rss a.statement) (sym same.same_rounds) ∙ t.1, t.2));
}

pub between_do_other : (source other : Program) (n : ℕ) (maps : List TimeMap) (ends : List (Ix × Ix)) (p : List ℤ) → HasLoops source (Time n maps) → HaveSameLoops source other
    → IsTrue (within_ranges source.params p) → HoldTimes source maps ends p
    → effects (program_between other maps ends) p ≡ map (placed (λ x. x) (effect other p)) (target other (Time n maps) p)
between_do_other source other n maps ends p h same within times = does_at source other n maps h same p within ends (hold_same source other same maps ends p times)

pub between_run_other : (source other : Program) (n : ℕ) (maps : List TimeMap) (ends : List (Ix × Ix)) (p : List ℤ) (store : Store) → HasLoops source (Time n maps) → HaveSameLoops source other
    → IsTrue (within_ranges source.params p) → HoldTimes source maps ends p → NeverOverflows other p → HasExtents other p → KeepsWithin other p
    → RunsTarget (program_between other maps ends) other (Time n maps) (λ x. x) p store
between_run_other source other n maps ends p store h same within times safe extents keeps =
    runs_at source other n maps h same p within ends (hold_same source other same maps ends p times) safe extents keeps store

-- ---- the source's own loops

pub its_own : (source : Program) → HaveSameLoops source source
its_own source = record { same_rounds = refl; same_ranges = refl }

pub between_do_target : BetweenDoTarget
between_do_target source n maps ends p h within times = does_at source source n maps h (its_own source) p within ends times

pub between_run_target : BetweenRunTarget
between_run_target source n maps ends p store h within times extents keeps =
    runs_at source source n maps h (its_own source) p within ends times (plain_never_overflows source p h.plain h.near within) extents keeps store

pub between_compile : BetweenCompile
between_compile source n maps ends h times terminates legal =
    let plain = plain_has_no_locals source h.plain in
    compiles_source unshared (program_between source maps ends) source (Time n maps) (λ p x. x) plain refl refl refl terminates legal
    (λ p here x y live. live.distinct)
    (λ p here. record { in_buffer = λ x. refl; own = λ x l. refl; no_other = λ array h. h })
    (λ p store fits.
    let e = terminates p store fits in
    let safe = ended_is_safe source p store e.0 plain fits e.1 in
    between_run_target source n maps ends p store h fits.ranges (times p (record { ranges = fits.ranges; context = fits.context })) safe.extents safe.within)

pub ranges_of_times : RangesOfTimes
ranges_of_times source n maps h = times_are source n maps h.plain h.near h.scheduled (few source n maps h) (slight source n maps h)

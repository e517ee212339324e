-- The rows of a statement's bounds are small, and hold at the times of its instances.
use Rattle.std.proofs.Common.{◌≡◌, ℕ, suc, ◌+◌, ◌<◌, ℤ, pos, ◌≤ℤ◌, ◌<ℤ◌, List, [], ◌∷◌, ◌++◌, length, get_or, map, take, Some, refl, sym, ap, subst, ◌∙◌, inl, inr, arith}
use Rattle.std.specs.Prelude.{slice_get}
use Rattle.std.specs.List.{All}
use Rattle.std.proofs.lemmas.List.{length-map}
use Rattle.std.proofs.lemmas.List.Elements.{All-nil, All-weaker}
use Rattle.std.proofs.lemmas.Option.{same_Some}
use Rattle.affc_rows.specs.Forms.{Affine}
use Rattle.affc_system.specs.Systems.{Rows, Meets}
use Rattle.affc_farkas.specs.Multiples.{entry_of}
use Rattle.affc_farkas.specs.Rational.{scaled_value}
use Rattle.affc_eliminate.proofs.Values.{entry_inside}
use Rattle.affc_ast.specs.declared.tree.Program.{Program}
use Rattle.affc_ast.specs.Trace.{assignments}
use Rattle.affc_trace.specs.declared.schedule.Schedule.TheVariants.{Time}
use Rattle.affc_trace.specs.declared.schedule.TimeMap.{TimeMap}
use Rattle.affc_trace.specs.Law.{IsIn}
use Rattle.affc_trace.specs.Laws.{IsInContext}
use Rattle.affc_trace.specs.Target.{numbers_in, time_of, IsMapOf}
use Rattle.affc_domain.specs.Ranges.{Within, number_ranges, ranges_of}
use Rattle.affc_domain.specs.Rounds.{rounds, loops_in}
use Rattle.affc_domain.proofs.RangeLemmas.{numbers_are}
use Rattle.affc_loops.specs.Ends.{IsRow, BoundsBelow, BoundsAbove, AreSides, AreSidesFrom, HoldFrom, AreRowsOf, AreRowsOfEach, last_of}
use Rattle.affc_loops.specs.Laws.{HasLoops}
use Rattle.affc_loops.specs.Loops.{Scheduled, boxes, scheduled, time_ranges}
use Rattle.affc_loops.proofs.BetweenLaws.{its_own, numbers, some_or_none}
use Rattle.affc_loops.proofs.Boxes.{sits}
use Rattle.affc_loops.proofs.Guards.{names_count}
use Rattle.affc_loops.proofs.Scheduled.{is_scheduled_at, shape_of}
use Rattle.affc_loopends.specs.declared.bounds.Bounds.{Bounds}
use Rattle.affc_loopends.specs.declared.bounds.Bounds.TheVariants.{Between, Loose as Without}
use Rattle.affc_loopends.specs.Ends.{IsProjectedRow}
use Rattle.affc_loopends.specs.Sizes.{IsModest}
use Rattle.affc_loopends.specs.TimeRows.{system_of}
use Rattle.affc_loopends.specs.TimeSets.{Timed, IsShaped, IsTimePoint, timed_in}
use Rattle.affc_loopends.specs.Whys.{AreBoundsFrom}
use Rattle.affc_loopends.proofs.Extended.{ends_hold}
use Rattle.affc_loopends.proofs.Instances.{whole_value, program_is_shaped, instance_is_time_point}
use Rattle.affc_loopends.specs.scanned.Scanned.{sides_of, AreBounds, AreBoundsOfEach, all_sides}

-- ---- Sides

last_is : (row : Affine) (column : ℕ) → length row.coefs ≡ suc column → entry_of row column ≡ last_of column row
last_is row column l = entry_inside row column (let h : column < length row.coefs = omega arith in h)

module _ (system : Rows) (column : ℕ) (known : List (ℤ × ℤ)) (rows : List Affine) (projected : All (IsProjectedRow system (suc column)) rows) where
  rows_are : All (IsModest known) rows → All (IsRow column known) rows
  rows_are modest = λ i d lt. record { width = (projected i d lt).is_row.terms.width; small = (modest i d lt).terms }

  bound_below : All (λ r. pos 0 <ℤ entry_of r column) rows → All (BoundsBelow column) rows
  bound_below below = λ i d lt. subst (λ z. pos 0 <ℤ z) (last_is (get_or rows i d) column (projected i d lt).is_row.terms.width) (below i d lt)

  bound_above : All (λ r. entry_of r column <ℤ pos 0) rows → All (BoundsAbove column) rows
  bound_above above = λ i d lt. subst (λ z. z <ℤ pos 0) (last_is (get_or rows i d) column (projected i d lt).is_row.terms.width) (above i d lt)

no_sides : (column : ℕ) (known : List (ℤ × ℤ)) → AreSides column known ([], [])
no_sides column known = record {
  lower = All-nil (IsRow column known);
  upper = All-nil (IsRow column known);
  below = All-nil (BoundsBelow column);
  above = All-nil (BoundsAbove column);
}

pub sides_from : (system : Rows) (column : ℕ) (known : List (ℤ × ℤ)) (bs : List Bounds) → AreBoundsFrom system column known bs → AreSidesFrom column known (map sides_of bs)
sides_from system column known [] b = tt
sides_from system column known (Between lower upper ∷ bs) b =
    let ends = (b.0).0 in (
      record {
        lower = rows_are system column known lower.items ends.projected_lower (b.0).1;
        upper = rows_are system column known upper.items ends.projected_upper (b.0).2;
        below = bound_below system column known lower.items ends.projected_lower ends.below;
        above = bound_above system column known upper.items ends.projected_upper ends.above;
      },
      sides_from system (suc column) known bs b.1,
    )
sides_from system column known (Without why ∷ bs) b = (no_sides column known, sides_from system (suc column) known bs b.1)

-- ---- Where they hold

module _ (s : Timed) (known : List (ℤ × ℤ)) (x : List ℤ) (shaped : IsShaped s) (point : IsTimePoint s x (pos 1)) where
  pub hold_from : (column : ℕ) (bs : List Bounds) → AreBoundsFrom (system_of s) column known bs → HoldFrom column (map sides_of bs) x
  hold_from column [] b = tt
  hold_from column (Between lower upper ∷ bs) b =
      let P : Affine → Type 0 = λ r. pos 0 ≤ℤ scaled_value r (take (suc column) x) (pos 1) in
      let Q : Affine → Type 0 = Meets (take (suc column) x) in
      let e = ends_hold s column lower.items upper.items x (pos 1) shaped (b.0).0 point in
      let meets : (r : Affine) → P r → Q r = λ r h. subst (λ z. pos 0 ≤ℤ z) (whole_value r (take (suc column) x)) h in
      (All-weaker P Q meets lower.items e.0, All-weaker P Q meets upper.items e.1, hold_from (suc column) bs b.1)
  hold_from column (Without why ∷ bs) b = (All-nil (Meets (take (suc column) x)), All-nil (Meets (take (suc column) x)), hold_from (suc column) bs b.1)

-- ---- The statements that can have instances

module _ (source : Program) (n : ℕ) (maps : List TimeMap) (h : HasLoops source (Time n maps)) where
  abbrev pub params : List (ℤ × ℤ)
  params = number_ranges source.params

  abbrev pub all : List Scheduled
  all = scheduled source maps

  abbrev pub ranges : List (ℤ × ℤ)
  ranges = time_ranges params all

  -- a statement with its loops, ranges and times
  pub record IsOwn (e : Scheduled) : Type 0 where
    pub rounds_at : slice_get (rounds source) e.statement ≡ Some e.around
    pub within : ranges_of params e.around ≡ Within e.ranges
    pub mapped : slice_get maps e.statement ≡ Some e.times
    pub map_of : IsMapOf (length params) (loops_in e.around) n e.times

  pub is_own : (e : Scheduled) → IsIn e all → IsOwn e
  is_own e i =
      let k = is_scheduled_at 0 (rounds source) (assignments source) maps (boxes source) e i in
      let q : e.statement ≡ 0 + k.at = k.number in
      let at : e.statement ≡ k.at = omega arith in
      let s = sits source k.at e.ranges k.its_ranges in
      let around : s.around ≡ e.around = same_Some s.around e.around (sym s.its_rounds ∙ k.its_guards) in
      let shape = shape_of source n maps h.scheduled k.at e.around e.times k.its_guards k.its_times in
      record {
        rounds_at = ap (slice_get (rounds source)) at ∙ k.its_guards;
        within = ap (ranges_of params) (sym around) ∙ s.is_box;
        mapped = ap (slice_get maps) at ∙ k.its_times;
        map_of =
            subst (λ m. IsMapOf m (loops_in e.around) n e.times) (numbers_are source.params)
            (subst (λ l. IsMapOf (numbers_in source.params) l n e.times) (names_count e.around) shape);
      }

  pub its_shape : (e : Scheduled) → IsIn e all → IsShaped (timed_in source e.around e.ranges e.times)
  its_shape e i = let own = is_own e i in program_is_shaped source e.around e.ranges e.times n own.map_of own.within

  components_long : (e : Scheduled) → IsIn e all → length e.times.forms ≡ length ranges
  components_long e i = elim (some_or_none source n maps h) [ inl q ↦ absurd (subst (IsIn e) q i) | inr l ↦ (is_own e i).map_of.components ∙ sym l ]

  module _ (p : List ℤ) (inside : IsInContext source p) where
    pub numbers_long : length p ≡ numbers_in source.params
    numbers_long = numbers source source n maps h (its_own source) p inside.ranges

    pub bounds_at : (e : Scheduled) (bs : List Bounds) → AreBounds source ranges e bs → AreBoundsFrom (system_of (timed_in source e.around e.ranges e.times)) (length p) (params ++ ranges) bs
    bounds_at e bs b = subst (λ k. AreBoundsFrom (system_of (timed_in source e.around e.ranges e.times)) k (params ++ ranges) bs) (sym numbers_long) b.projected

    scheduled_rows : (e : Scheduled) → IsIn e all → (bs : List Bounds) → AreBounds source ranges e bs → AreRowsOf source maps ranges p e (map sides_of bs)
    scheduled_rows e i bs b =
        let own = is_own e i in
        let s = timed_in source e.around e.ranges e.times in
        record {
          one_each = length-map bs sides_of ∙ b.one_each ∙ components_long e i;
          are_sides = sides_from (system_of s) (length p) (params ++ ranges) bs (bounds_at e bs b);
          hold = λ a j k.
              let point =
              instance_is_time_point source n maps p a e.around e.ranges e.times (record { plain = h.plain; near = h.near }) h.scheduled
              (ap (slice_get (rounds source)) k ∙ own.rounds_at) own.within (ap (slice_get maps) k ∙ own.mapped) inside j in
              hold_from s (params ++ ranges) (p ++ time_of maps p a) (its_shape e i) point (length p) bs (bounds_at e bs b);
        }

    pub each_rows : (es : List Scheduled) → ((e : Scheduled) → IsIn e es → IsIn e all) → (bss : List (List Bounds)) → AreBoundsOfEach source ranges es bss → AreRowsOfEach source maps ranges p es (all_sides bss)
    each_rows [] sub [] b = tt
    each_rows [] sub (bs ∷ bss) b = absurd b
    each_rows (e ∷ es) sub [] b = absurd b
    each_rows (e ∷ es) sub (bs ∷ bss) b = (scheduled_rows e (sub e (inl refl)) bs b.0, each_rows es (λ f i. sub f (inr i)) bss b.1)

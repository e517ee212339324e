-- Where one statement alone can have instances and no component is loose, each turn extends to a point of its time set.
use Rattle.std.proofs.Common.{◌≡◌, ℕ, zero, suc, ℤ, List, [], ◌∷◌, ◌++◌, length, map, refl, sym, ap, subst, ◌∙◌, inl, arith}
use Rattle.affc_ast.specs.declared.tree.Program.{Program}
use Rattle.affc_trace.specs.declared.schedule.Schedule.TheVariants.{Time}
use Rattle.affc_trace.specs.declared.schedule.TimeMap.{TimeMap}
use Rattle.affc_trace.specs.Law.{IsIn}
use Rattle.affc_trace.specs.Laws.{IsInContext}
use Rattle.affc_domain.proofs.RangeLemmas.{numbers_are}
use Rattle.affc_loops.specs.Between.{IsTurn}
use Rattle.affc_loops.specs.Ends.{Sides, MeetAlong, ends_of}
use Rattle.affc_loops.specs.Laws.{HasLoops}
use Rattle.affc_loops.specs.Loops.{Scheduled, scheduled}
use Rattle.affc_loops.proofs.RowLaws.{turns_meet_rows, ends_same}
use Rattle.affc_loopends.specs.declared.bounds.Bounds.{Bounds}
use Rattle.affc_loopends.specs.declared.bounds.Bounds.TheVariants.{Between, Loose as Without}
use Rattle.affc_loopends.specs.Ends.{LieBetween}
use Rattle.affc_loopends.specs.TimeRows.{system_of}
use Rattle.affc_loopends.specs.TimeSets.{ExtendsToTimePoint, timed_in}
use Rattle.affc_loopends.specs.Whys.{AreBetween}
use Rattle.affc_loopends.proofs.Extended as ends
use Rattle.affc_loopends.proofs.Statements.{bounds_are_ends}
use Rattle.affc_loopends.specs.declared.scanned.scanned.Loose.{Loose}
use Rattle.affc_loopends.specs.scanned.Laws.{TurnsExtend}
use Rattle.affc_loopends.specs.scanned.Scanned.{sides_of, loose_from, AreBoundsOfEach, IsBetween, all_loose, all_sides}
use Rattle.affc_loopends.proofs.scanned.Rows.{params, ranges, sides_from, its_shape, numbers_long, bounds_at}
use Rattle.affc_loopends.proofs.scanned.Same.{turned, scheduled_same, loose_same, bounds_same}

pub not_empty : (x : Loose) (xs : List Loose) → (x ∷ xs) ≡ [] → ⊥
not_empty x xs e = let l = ap length e in absurd (omega (arith, l))

empty_front : (xs : List Loose) → xs ++ [] ≡ [] → xs ≡ []
empty_front [] e = refl
empty_front (x ∷ xs) e = absurd (not_empty x (xs ++ []) e)

all_between : (statement component : ℕ) (bs : List Bounds) → loose_from statement component bs ≡ [] → AreBetween bs (map sides_of bs)
all_between statement component [] e = tt
all_between statement component (Between lower upper ∷ bs) e = (refl, refl, all_between statement (suc component) bs e)
all_between statement component (Without why ∷ bs) e = absurd (not_empty (record { statement = statement; component = component; why = why }) (loose_from statement (suc component) bs) e)

lie_between : (ss : List Sides) (before components : List ℤ) → MeetAlong ss before components → LieBetween ss before components
lie_between ss before [] m = tt
lie_between [] before (x ∷ xs) m = absurd m
lie_between (s ∷ ss) before (x ∷ xs) m = (m.0, m.1, lie_between ss (before ++ x ∷ []) xs m.2)

module _ (source : Program) (n : ℕ) (maps : List TimeMap) (h : HasLoops source (Time n maps)) (e : Scheduled) (alone : scheduled source maps ≡ e ∷ []) (p components : List ℤ) (inside : IsInContext source p) where
  there : IsIn e (scheduled source maps)
  there = subst (IsIn e) (sym alone) (inl refl)

  abbrev own_ranges : List (ℤ × ℤ)
  own_ranges = ranges source n maps h

  turn_extends : (bss : List (List Bounds)) → AreBoundsOfEach source own_ranges (e ∷ []) bss → all_loose (e ∷ []) bss ≡ []
      → ExtendsToTimePoint (timed_in source e.around e.ranges e.times) p → IsTurn (ends_of source maps (all_sides bss)) p components
      → ExtendsToTimePoint (timed_in source e.around e.ranges e.times) (p ++ components)
  turn_extends [] b none start turn = absurd b
  turn_extends (bs ∷ cs ∷ bss) b none start turn = absurd b.1
  turn_extends (bs ∷ []) b none start turn =
      let s = timed_in source e.around e.ranges e.times in
      let sides = map sides_of bs in
      let known = params source n maps h ++ own_ranges in
      let long = numbers_long source n maps h p inside in
      let at = bounds_at source n maps h p inside e bs b.0 in
      let met = turns_meet_rows source maps e sides known p components alone long (sides_from (system_of s) (length p) known bs at) turn in
      let between = all_between e.statement zero bs (empty_front (loose_from e.statement zero bs) none) in
      ends.turns_extend s sides p components (its_shape source n maps h e there) (long ∙ numbers_are source.params)
      (bounds_are_ends (system_of s) (length p) known bs sides at between) start (lie_between sides p components met)

pub turns_extend : TurnsExtend
turns_extend source other n maps e s h same alone scans none =
    let given : IsBetween other maps s = scans in
    let rows = all_sides given.bounds in
    let own = bounds_same other source (turned source other same) maps given.bounds given.are_bounds in
    let bounds = subst (λ es. AreBoundsOfEach source (ranges source n maps h) es given.bounds) alone own in
    let loose =
    ap (λ es. all_loose es given.bounds) (sym alone)
    ∙ loose_same (scheduled source maps) (scheduled other maps) (scheduled_same source other same.same_loops maps) given.bounds
    ∙ sym given.loose ∙ none in
    record {
      ends = ends_of other maps rows;
      is = given.is;
      extend = λ p components inside start turn.
          turn_extends source n maps h e alone p components inside given.bounds bounds loose start
          (subst (λ ends. IsTurn ends p components) (ends_same source other same.same_loops maps rows) turn);
    }

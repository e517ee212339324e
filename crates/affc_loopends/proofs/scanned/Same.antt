-- Programs with the same loops, conditions and context have the same statements that can have instances, and the same bounds of their times.
use Rattle.std.proofs.Common.{◌≡◌, ℕ, suc, ℤ, List, [], ◌∷◌, ◌++◌, length, Option, Some, None, refl, sym, ap, subst, ◌∙◌, arith}
use Rattle.affc_ast.specs.declared.tree.Program.{Program}
use Rattle.affc_ast.specs.Trace.{Assignment, assignments}
use Rattle.affc_trace.specs.declared.schedule.Schedule.TheVariants.{Source, Time}
use Rattle.affc_trace.specs.declared.schedule.TimeMap.{TimeMap}
use Rattle.affc_trace.specs.Target.{numbers_in}
use Rattle.affc_domain.specs.Ranges.{number_ranges}
use Rattle.affc_domain.specs.Rounds.{Round, rounds}
use Rattle.affc_domain.proofs.PlainLemmas.{rounds_of_each}
use Rattle.affc_loops.specs.Between.{program_between}
use Rattle.affc_loops.specs.Ends.{ends_of}
use Rattle.affc_loops.specs.Laws.{HaveSameLoops}
use Rattle.affc_loops.specs.Loops.{Scheduled, boxes, scheduled_from, scheduled, time_ranges}
use Rattle.affc_loops.proofs.SameLoops.{boxes_same, numbers_same, times_same}
use Rattle.affc_loopends.specs.declared.bounds.Bounds.{Bounds}
use Rattle.affc_loopends.specs.TimeRows.{system_of}
use Rattle.affc_loopends.specs.TimeSets.{Timed, timed_in}
use Rattle.affc_loopends.specs.Whys.{AreBoundsFrom}
use Rattle.affc_loopends.specs.scanned.Laws.{HaveSameTimes, SameLoopsScan}
use Rattle.affc_loopends.specs.scanned.Scanned.{AreBounds, AreBoundsOfEach, IsBetween, loose_from, all_loose, all_sides}

-- ---- The statements

-- all but what they do
pub record IsSame (e f : Scheduled) : Type 0 where
  pub statement : e.statement ≡ f.statement
  pub around : e.around ≡ f.around
  pub times : e.times ≡ f.times
  pub ranges : e.ranges ≡ f.ranges

abbrev pub AreSame : List Scheduled → List Scheduled → Type 0
AreSame [] [] = Unit {0}
AreSame [] (f ∷ fs) = ⊥
AreSame (e ∷ es) [] = ⊥
AreSame (e ∷ es) (f ∷ fs) = IsSame e f × AreSame es fs

from_same : (k : ℕ) (rss : List (List Round)) (as' bs : List Assignment) (ms : List TimeMap) (boxes : List (Option (List (ℤ × ℤ)))) → length as' ≡ length bs → AreSame (scheduled_from k rss as' ms boxes) (scheduled_from k rss bs ms boxes)
from_same k [] as' bs ms boxes l = tt
from_same k (rs ∷ rss) [] [] ms boxes l = tt
from_same k (rs ∷ rss) [] (b ∷ bs) ms boxes l = absurd (omega (arith, l))
from_same k (rs ∷ rss) (a ∷ as') [] ms boxes l = absurd (omega (arith, l))
from_same k (rs ∷ rss) (a ∷ as') (b ∷ bs) [] boxes l = tt
from_same k (rs ∷ rss) (a ∷ as') (b ∷ bs) (m ∷ ms) [] l = tt
from_same k (rs ∷ rss) (a ∷ as') (b ∷ bs) (m ∷ ms) (Some box ∷ boxes) l =
    (record { statement = refl; around = refl; times = refl; ranges = refl }, from_same (suc k) rss as' bs ms boxes (omega (arith, l)))
from_same k (rs ∷ rss) (a ∷ as') (b ∷ bs) (m ∷ ms) (None ∷ boxes) l = from_same (suc k) rss as' bs ms boxes (omega (arith, l))

pub scheduled_same : (source other : Program) → HaveSameLoops source other → (maps : List TimeMap) → AreSame (scheduled source maps) (scheduled other maps)
scheduled_same source other same maps =
    let count = rounds_of_each source in
    let counted = rounds_of_each other in
    let both = ap length same.same_rounds in
    subst (λ rss. AreSame (scheduled source maps) (scheduled_from 0 rss (assignments other) maps (boxes other))) (sym same.same_rounds)
    (subst (λ bs. AreSame (scheduled source maps) (scheduled_from 0 (rounds source) (assignments other) maps bs)) (sym (boxes_same source other same))
    (from_same 0 (rounds source) (assignments source) (assignments other) maps (boxes source) (omega (arith, count, counted, both))))

pub loose_same : (es fs : List Scheduled) → AreSame es fs → (bss : List (List Bounds)) → all_loose es bss ≡ all_loose fs bss
loose_same [] [] h bss = refl
loose_same [] (f ∷ fs) h bss = absurd h
loose_same (e ∷ es) [] h bss = absurd h
loose_same (e ∷ es) (f ∷ fs) h [] = refl
loose_same (e ∷ es) (f ∷ fs) h (bs ∷ bss) =
    ap (λ k. loose_from k 0 bs ++ all_loose es bss) (h.0).statement ∙ ap (λ l. loose_from f.statement 0 bs ++ l) (loose_same es fs h.1 bss)

-- ---- Their bounds

pub turned : (source other : Program) → HaveSameTimes source other → HaveSameTimes other source
turned source other same = record {
  same_loops = record { same_rounds = sym (same.same_loops).same_rounds; same_ranges = sym (same.same_loops).same_ranges };
  same_context = sym same.same_context;
}

pub its_times : (source : Program) → HaveSameTimes source source
its_times source = record { same_loops = record { same_rounds = refl; same_ranges = refl }; same_context = refl }

module _ (source other : Program) (same : HaveSameTimes source other) where
  timed_same : (e f : Scheduled) → IsSame e f → timed_in source e.around e.ranges e.times ≡ timed_in other f.around f.ranges f.times
  timed_same e f h = λ i. record {
    params = sym (same.same_loops).same_ranges i;
    context = sym same.same_context i;
    around = h.around i;
    ranges = h.ranges i;
    times = (h.times i).forms;
    inverse = (h.times i).inverse;
  }

  module _ (ranges own : List (ℤ × ℤ)) (are : ranges ≡ own) where
    known : number_ranges source.params ++ ranges ≡ number_ranges other.params ++ own
    known = ap (λ rs. number_ranges source.params ++ rs) are ∙ ap (λ ps. ps ++ own) (sym (same.same_loops).same_ranges)

    one_same : (e f : Scheduled) → IsSame e f → (bs : List Bounds) → AreBounds source ranges e bs → AreBounds other own f bs
    one_same e f h bs b =
        let q = system_of (timed_in other f.around f.ranges f.times) in
        record {
          one_each = b.one_each ∙ ap (λ (m : TimeMap). length m.forms) h.times;
          projected =
              subst (λ rs. AreBoundsFrom q (numbers_in other.params) rs bs) known
              (subst (λ k. AreBoundsFrom q k (number_ranges source.params ++ ranges) bs) (sym (numbers_same source other same.same_loops))
              (subst (λ (s : Timed). AreBoundsFrom (system_of s) (numbers_in source.params) (number_ranges source.params ++ ranges) bs) (timed_same e f h) b.projected));
        }

    each_same : (es fs : List Scheduled) → AreSame es fs → (bss : List (List Bounds)) → AreBoundsOfEach source ranges es bss → AreBoundsOfEach other own fs bss
    each_same [] [] h [] b = tt
    each_same [] [] h (bs ∷ bss) b = absurd b
    each_same [] (f ∷ fs) h bss b = absurd h
    each_same (e ∷ es) [] h bss b = absurd h
    each_same (e ∷ es) (f ∷ fs) h [] b = absurd b
    each_same (e ∷ es) (f ∷ fs) h (bs ∷ bss) b = (one_same e f h.0 bs b.0, each_same es fs h.1 bss b.1)

  pub bounds_same : (maps : List TimeMap) (bss : List (List Bounds)) → AreBoundsOfEach source (time_ranges (number_ranges source.params) (scheduled source maps)) (scheduled source maps) bss
      → AreBoundsOfEach other (time_ranges (number_ranges other.params) (scheduled other maps)) (scheduled other maps) bss
  bounds_same maps bss b =
      each_same (time_ranges (number_ranges source.params) (scheduled source maps)) (time_ranges (number_ranges other.params) (scheduled other maps)) (sym (times_same source other same.same_loops maps))
      (scheduled source maps) (scheduled other maps) (scheduled_same source other same.same_loops maps) bss b

-- ---- What is scanned of one is scanned of the other

pub same_loops_scan : SameLoopsScan
same_loops_scan source other Source s h same scans = (record { program = other; loose = s.loose }, (refl, scans.1), refl)
same_loops_scan source other (Time n maps) s h same scans =
    let own : IsBetween source maps s = scans in (
      record { program = program_between other maps (ends_of other maps (all_sides own.bounds)); loose = s.loose },
      record {
        bounds = own.bounds;
        are_bounds = bounds_same source other same maps own.bounds own.are_bounds;
        is = refl;
        loose = own.loose ∙ loose_same (scheduled source maps) (scheduled other maps) (scheduled_same source other same.same_loops maps) own.bounds;
      },
      refl,
    )

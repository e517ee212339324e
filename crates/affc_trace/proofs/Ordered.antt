-- The target is the one list of the trace's instances in increasing order.
use Rattle.std.proofs.Common.{◌≡◌, ◌≢◌, ℕ, zero, suc, ◌+◌, ℤ, List, [], ◌∷◌, ◌++◌, length, Some, refl, sym, ap, subst, ◌∙◌}
use Rattle.std.specs.Prelude.{slice_get}
use Rattle.std.specs.declared.cmp.Ordering.TheVariants.{Equal}
use Rattle.std.specs.Ordering.{nat_cmp, int_cmp}
use Rattle.std.specs.Cmp.{IsTotalOrder, nat_cmp_total, int_cmp_total, then_total, on_total}
use Rattle.std.specs.Cmp.Lexicographic.{lists_total, slice_cmp}
use Rattle.std.specs.FinMap.{nat_cmp-IsAntisymmetric, int_cmp-IsAntisymmetric, slice_cmp-IsAntisymmetric}
use Rattle.std.proofs.lemmas.Option.{none-some, same_Some}
use Rattle.affc_rows.specs.Forms.{values_of}
use Rattle.affc_ast.specs.declared.tree.Instance.{Instance}
use Rattle.affc_ast.specs.declared.tree.Program.{Program}
use Rattle.affc_ast.specs.Trace.{trace}
use Rattle.affc_trace.specs.declared.schedule.TimeMap.{TimeMap}
use Rattle.affc_trace.specs.declared.schedule.Schedule.TheVariants.{Time}
use Rattle.affc_trace.specs.Law.{IsIn}
use Rattle.affc_trace.specs.Target.{time_by, time_of, time_cmp, target, IsMapOf, AreMapsOf, IsScheduleOf, numbers_in, loops_round}
use Rattle.affc_trace.specs.Laws.{TargetIsInOrder, TargetIsByTime}
use Rattle.affc_trace.proofs.Legality.{earlier_is_in, later_is_in}
use Rattle.affc_trace.proofs.Targets.{both_tied}
use Rattle.affc_trace.proofs.Once.{once}
use Rattle.affc_trace.proofs.Depths.{depth}
use Rattle.affc_trace.proofs.Recovers.{recovers}
use Rattle.affc_trace.proofs.Sorted.{in_order, only_order, less_is_earlier}

pub time_cmp_total : (maps : List TimeMap) (p : List ℤ) → IsTotalOrder (time_cmp maps p)
time_cmp_total maps p = then_total (on_total (time_of maps p) (lists_total int_cmp_total)) (on_total (λ (b : Instance). b.statement) nat_cmp_total)

-- the map of a statement with so many loops
pub map_of : (parameters n : ℕ) (ls : List ℕ) (ms : List TimeMap) → AreMapsOf parameters n ls ms → (k loops : ℕ) → slice_get ls k ≡ Some loops
    → (m : TimeMap) × (slice_get ms k ≡ Some m) × IsMapOf parameters loops n m
map_of parameters n [] ms h k loops e = absurd (none-some loops e)
map_of parameters n (l ∷ ls) [] h k loops e = absurd h
map_of parameters n (l ∷ ls) (m ∷ ms) h zero loops e = (m, refl, subst (λ u. IsMapOf parameters u n m) (same_Some l loops e) h.0)
map_of parameters n (l ∷ ls) (m ∷ ms) h (suc k) loops e = map_of parameters n ls ms h.1 k loops e

module _ (program : Program) (n : ℕ) (maps : List TimeMap) (p : List ℤ) (fits : IsScheduleOf program (Time n maps)) (numbers : length p ≡ numbers_in program.params) where
  -- the inverse gives an instance's iterators back from its time
  pub from_time : (a : Instance) → IsIn a (trace program p) → (m : TimeMap) → slice_get maps a.statement ≡ Some m → values_of m.inverse (p ++ time_of maps p a) ≡ a.iterators
  from_time a i m e =
      let r = map_of (numbers_in program.params) n (loops_round program) maps fits a.statement (length a.iterators) (depth program p a i) in
      let same : r.0 ≡ m = same_Some r.0 m (sym r.1 ∙ e) in
      let shape : IsMapOf (numbers_in program.params) (length a.iterators) n m = subst (IsMapOf (numbers_in program.params) (length a.iterators) n) same r.2 in
      ap (λ o. values_of m.inverse (p ++ time_by o (p ++ a.iterators))) e
      ∙ recovers m.forms m.inverse m.shaped m.inverse_shaped m.inverts p a.iterators (sym shape.iterators) (ap (λ u. u + length a.iterators) numbers ∙ sym shape.columns)

  apart : (a b : Instance) → IsIn a (trace program p) → IsIn b (trace program p) → a ≢ b → time_cmp maps p a b ≢ Equal
  apart a b i j different e =
      let tied = both_tied (slice_cmp int_cmp (time_of maps p a) (time_of maps p b)) (nat_cmp a.statement b.statement) e in
      let times : time_of maps p a ≡ time_of maps p b = slice_cmp-IsAntisymmetric int_cmp-IsAntisymmetric (time_of maps p a) (time_of maps p b) tied.0 in
      let statements : a.statement ≡ b.statement = nat_cmp-IsAntisymmetric a.statement b.statement tied.1 in
      let r = map_of (numbers_in program.params) n (loops_round program) maps fits a.statement (length a.iterators) (depth program p a i) in
      let iterators : a.iterators ≡ b.iterators =
      sym (from_time a i r.0 r.1) ∙ ap (λ t. values_of (r.0).inverse (p ++ t)) times ∙ from_time b j r.0 (sym (ap (slice_get maps) statements) ∙ r.1) in
      different (λ u. record { statement = statements u; iterators = iterators u })

pub target_is_in_order : TargetIsInOrder
target_is_in_order program n maps p fits numbers =
    let sorted = in_order (time_cmp maps p) (time_cmp_total maps p) (trace program p) (once program p) (apart program n maps p fits numbers) in
    (sorted, λ order h. only_order (time_cmp maps p) (time_cmp_total maps p) (trace program p) order _ h sorted)

pub target_is_by_time : TargetIsByTime
target_is_by_time program n maps p a b fits numbers =
    let sorted = (target_is_in_order program n maps p fits numbers).0 in
    let ordered : List Instance = target program (Time n maps) p in (
      λ e. (sorted.reordered.no_other a (earlier_is_in ordered a b e), sorted.reordered.no_other b (later_is_in ordered a b e), sorted.increasing a b e),
      λ h. less_is_earlier (time_cmp maps p) (time_cmp_total maps p) (trace program p) ordered sorted a b h.0 h.1 h.2,
    )

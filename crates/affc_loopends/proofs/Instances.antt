-- Instances are, with their times, time points.
use Rattle.std.proofs.Common.{◌≡◌, ℕ, ◌+◌, ◌-◌, List, [], ◌∷◌, ◌++◌, length, map, take, drop, Some, ℤ, pos, ◌+ℤ◌, ◌≤ℤ◌, refl, sym, ap, subst, ◌∙◌, arith, length-append}
use Rattle.std.specs.Prelude.{slice_get}
use Rattle.std.proofs.lemmas.Int.{ints}
use Rattle.std.proofs.lemmas.List.{take-append-le, drop-append-le, take_all, drop_all}
use Rattle.affc_rows.specs.Forms.{Affine, dot, value, values_of, columns_of, HaveColumns}
use Rattle.affc_rows.proofs.IntLemmas.{one-mul}
use Rattle.affc_farkas.specs.Rational.{scaled_value}
use Rattle.affc_ast.specs.declared.tree.Instance.{Instance}
use Rattle.affc_ast.specs.declared.tree.Program.{Program}
use Rattle.affc_ast.specs.Trace.{trace}
use Rattle.affc_trace.specs.declared.schedule.TimeMap.{TimeMap}
use Rattle.affc_trace.specs.declared.schedule.Schedule.TheVariants.{Time}
use Rattle.affc_trace.specs.Law.{IsIn}
use Rattle.affc_trace.specs.Laws.{IsInContext}
use Rattle.affc_trace.specs.Target.{time_of, time_by, numbers_in, IsMapOf, IsScheduleOf}
use Rattle.affc_trace.proofs.Ordered.{from_time}
use Rattle.affc_domain.specs.Ranges.{Within, number_ranges, ranges_of}
use Rattle.affc_domain.specs.Rounds.{Round, rounds, loops_in}
use Rattle.affc_domain.proofs.RangeLemmas.{box_length, in_ranges, numbers_are}
use Rattle.affc_domain.proofs.ColumnLemmas.{values_long}
use Rattle.affc_nest.specs.Domains.{domain_rows}
use Rattle.affc_nest.specs.Laws.{HasNest}
use Rattle.affc_nest.proofs.DomainLemmas.{Met}
use Rattle.affc_nest.proofs.PointLemmas.{instance_met, ranges_long}
use Rattle.affc_loopends.specs.TimeSets.{HoldAll, LieWithin, Turn, IsShaped, IsTimePoint, parameters_at, components_at, iterators_at, timed_in}
use Rattle.affc_loopends.proofs.Scaled.{Held}
use Rattle.affc_loopends.proofs.Turns.{domain_held}

-- ---- Over the divisor 1

pub whole_value : (f : Affine) (x : List ℤ) → scaled_value f x (pos 1) ≡ value f x
whole_value f x = ap (λ z. dot f.coefs x +ℤ z) (one-mul f.constant)

whole_values : (fs : List Affine) (x : List ℤ) → map (λ f. scaled_value f x (pos 1)) fs ≡ values_of fs x
whole_values [] x = refl
whole_values (f ∷ fs) x = ap (λ z. z ∷ map (λ g. scaled_value g x (pos 1)) fs) (whole_value f x) ∙ ap (λ zs. value f x ∷ zs) (whole_values fs x)

whole_held : (x : List ℤ) (rows : List Affine) → Met x rows → Held x (pos 1) rows
whole_held x [] m = tt
whole_held x (r ∷ rs) m = (subst (λ z. pos 0 ≤ℤ z) (sym (whole_value r x)) m.0, whole_held x rs m.1)

-- ---- Shapes

same_count : (c m k n i : ℕ) → c ≡ m + k → i ≡ k → (c - i) + n ≡ m + n
same_count c m k n i e f = omega arith

pub program_is_shaped : (program : Program) (rs : List Round) (ranges : List (ℤ × ℤ)) (m : TimeMap) (components : ℕ)
    → IsMapOf (length (number_ranges program.params)) (loops_in rs) components m → ranges_of (number_ranges program.params) rs ≡ Within ranges → IsShaped (timed_in program rs ranges m)
program_is_shaped program rs ranges m components is within = record {
  ranges = ranges_long rs (number_ranges program.params) ranges within;
  iterators = is.iterators;
  times = subst (λ k. HaveColumns k m.forms) is.columns m.shaped;
  inverse = subst (λ k. HaveColumns k m.inverse) (same_count (columns_of m.forms) (length (number_ranges program.params)) (loops_in rs) (length m.forms) (length m.inverse) is.columns is.iterators) m.inverse_shaped;
}

-- ---- Instances

take_front : (p t : List ℤ) (n : ℕ) → length p ≡ n → take n (p ++ t) ≡ p
take_front p t n e = take-append-le n p t (omega arith) ∙ take_all n p (omega arith)

drop_front : (p t : List ℤ) (n : ℕ) → length p ≡ n → drop n (p ++ t) ≡ t
drop_front p t n e = drop-append-le n p t (omega arith) ∙ ap (λ zs. zs ++ t) (drop_all n p (omega arith))

module _ (program : Program) (components : ℕ) (maps : List TimeMap) (p : List ℤ) (b : Instance) (rs : List Round) (ranges : List (ℤ × ℤ)) (m : TimeMap)
    (has : HasNest program) (scheduled : IsScheduleOf program (Time components maps)) (at : slice_get (rounds program) b.statement ≡ Some rs)
    (within : ranges_of (number_ranges program.params) rs ≡ Within ranges) (mapped : slice_get maps b.statement ≡ Some m) (inside : IsInContext program p) (i : IsIn b (trace program p)) where
  pub instance_is_time_point : IsTimePoint (timed_in program rs ranges m) (p ++ time_of maps p b) (pos 1)
  instance_is_time_point =
      let s = timed_in program rs ranges m in
      let ps = number_ranges program.params in
      let its = b.iterators in
      let t = time_of maps p b in
      let x = p ++ t in
      let time : t ≡ values_of m.forms (p ++ its) = ap (λ o. time_by o (p ++ its)) mapped in
      let pl : length p ≡ length ps = sym (box_length ps p (in_ranges program.params p inside.ranges)) in
      let numbers : length p ≡ numbers_in program.params = pl ∙ sym (numbers_are program.params) in
      let met = instance_met program p b rs ranges has.plain at within inside i in
      let turn = (domain_held (pos 1) ps program.context ranges rs p its pl met.0 (ranges_long rs ps ranges within)).0 (whole_held (p ++ its) (domain_rows ps program.context ranges rs) met.1) in
      let parameters : parameters_at s x ≡ p = take_front p t (length ps) pl in
      let later : components_at s x ≡ t = drop_front p t (length ps) pl in
      let iterators : iterators_at s x (pos 1) ≡ its = whole_values m.inverse x ∙ from_time program components maps p scheduled numbers b i m mapped in
      record {
        width = length-append p t ∙ ap (λ k. k + length t) pl ∙ ap (λ zs. length ps + length zs) time ∙ ap (λ k. length ps + k) (values_long m.forms (p ++ its));
        divisor = omega (arith, ints);
        parameters = subst (λ ys. LieWithin (pos 1) ps ys) (sym parameters) turn.0;
        context = subst (λ ys. HoldAll ys (pos 1) program.context) (sym parameters) turn.1;
        turn = subst (λ ys. Turn (pos 1) rs ys (iterators_at s x (pos 1))) (sym parameters) (subst (λ ys. Turn (pos 1) rs p ys) (sym iterators) turn.2);
        within = subst (λ ys. LieWithin (pos 1) ranges ys) (sym iterators) turn.3;
        times =
            ap (λ ys. map (λ f. scaled_value f (ys ++ iterators_at s x (pos 1)) (pos 1)) m.forms) parameters
            ∙ ap (λ ys. map (λ f. scaled_value f (p ++ ys) (pos 1)) m.forms) iterators
            ∙ whole_values m.forms (p ++ its) ∙ sym time ∙ sym later;
      }

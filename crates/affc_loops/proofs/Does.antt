-- The printed program does what the target's instances do, in order.
use Rattle.std.proofs.Common.{◌≡◌, ℕ, ◌+◌, ◌-◌, ℤ, Bool, true, false, ◌&&◌, if◌then◌else◌, List, [], ◌∷◌, ◌++◌, length, Option, Some, map, flat_map, refl, sym, ap, subst, ◌∙◌, inl, inr, arith}
use Rattle.std.specs.Prelude.{slice_get}
use Rattle.std.proofs.lemmas.Option.{same_Some}
use Rattle.affc_rows.specs.Forms.{values_of, columns_of, HaveColumns}
use Rattle.affc_ast.specs.declared.tree.Instance.{Instance}
use Rattle.affc_ast.specs.declared.tree.Ix.{Ix}
use Rattle.affc_ast.specs.declared.tree.Program.{Program}
use Rattle.affc_ast.specs.declared.tree.Stmt.{Stmt}
use Rattle.affc_ast.specs.Fits.{all_hold}
use Rattle.affc_ast.specs.Recursion.{by_stmt}
use Rattle.affc_ast.specs.Trace.{assignments, trace}
use Rattle.affc_system.specs.Boxes.{InBox}
use Rattle.affc_trace.specs.declared.schedule.TimeMap.{TimeMap}
use Rattle.affc_trace.specs.declared.schedule.Schedule.TheVariants.{Time}
use Rattle.affc_trace.specs.Law.{IsIn, placed}
use Rattle.affc_trace.specs.Effects.{effect_by, effect, with_all, effects_step}
use Rattle.affc_trace.specs.Target.{time_by, time_of, target, IsMapOf, IsScheduleOf, numbers_in, loops_round}
use Rattle.affc_trace.proofs.Depths.{depth}
use Rattle.affc_trace.proofs.EndedReads.{append_assoc}
use Rattle.affc_trace.proofs.LastStores.{append_nil, map_append}
use Rattle.affc_trace.proofs.Ordered.{map_of}
use Rattle.affc_trace.proofs.Recovers.{recovers}
use Rattle.affc_trace.proofs.Runs.{length_append}
use Rattle.affc_domain.specs.Rounds.{Round, rounds, turns}
use Rattle.affc_domain.proofs.Lists.{both_true, true_both}
use Rattle.affc_domain.proofs.PlainLemmas.{has_assignment}
use Rattle.affc_domain.proofs.TurnLemmas.{instances_turn}
use Rattle.affc_domain.proofs.ColumnLemmas.{values_long}
use Rattle.affc_loops.specs.Loops.{Scheduled, scheduled_from, loop_names, locals_of, box_tests, time_tests, guarded, if_any, moved_assign, block_of}
use Rattle.affc_loops.specs.Between.{LiesBetween, body_between}
use Rattle.affc_loops.proofs.Boxed.{Encloses}
use Rattle.affc_loops.proofs.Guarded.{guarded_does}
use Rattle.affc_loops.proofs.Guards.{guard_tests, all_true_at, see_outwards}
use Rattle.affc_loops.proofs.MovedTrees.{moved_effect}
use Rattle.affc_loops.proofs.NestEffects.{done_by, one_if, one_block, loops_do}
use Rattle.affc_loops.proofs.Scheduled.{loops_are, shape_of, is_scheduled_at, has_scheduled, scheduled_rise}
use Rattle.affc_loops.proofs.PointsOrder.{points, in_points, to_points, between_length, points_rise}
use Rattle.affc_loops.proofs.ScannedOrder.{instance_at, let_through, Finds, scan_is_target}
use Rattle.affc_loops.proofs.Tests.{locals_are, box_true, times_true, true_times, guards_hold}

-- ---- lists

flat_same_in : {A B : Type 0} (f g : A → List B) (xs : List A) → ((x : A) → IsIn x xs → f x ≡ g x) → flat_map f xs ≡ flat_map g xs
flat_same_in f g [] e = refl
flat_same_in f g (x ∷ xs) e = ap (λ l. l ++ flat_map f xs) (e x (inl refl)) ∙ ap (λ l. g x ++ l) (flat_same_in f g xs (λ y i. e y (inr i)))

map_flat : {A B C : Type 0} (h : B → C) (f : A → List B) (xs : List A) → flat_map (λ x. map h (f x)) xs ≡ map h (flat_map f xs)
map_flat h f [] = refl
map_flat h f (x ∷ xs) = ap (λ l. map h (f x) ++ l) (map_flat h f xs) ∙ sym (map_append h (f x) (flat_map f xs))

flat_none : {A B : Type 0} (f : A → List B) → ((x : A) → f x ≡ []) → (xs : List A) → [] ≡ flat_map f xs
flat_none f e [] = refl
flat_none f e (x ∷ xs) = flat_none f e xs ∙ ap (λ l. l ++ flat_map f xs) (sym (e x))

map_if : {A B : Type 0} (h : A → B) (b : Bool) (x : A) → (if b then h x ∷ [] else []) ≡ map h (if b then x ∷ [] else [])
map_if h true x = refl
map_if h false x = refl

nested : {A : Type 0} (a b c : Bool) (xs : List A) → (if a then (if b then (if c then xs else []) else []) else []) ≡ (if a && (b && c) then xs else [])
nested true true c xs = refl
nested true false c xs = refl
nested false b c xs = refl

-- ---- a block

-- the iterators that belong to a time, and whether the tests let them run
abbrev pub found : (p : List ℤ) → Scheduled → List ℤ → List ℤ
found p e t = values_of e.times.inverse (p ++ t)

abbrev pub tests_pass : (p : List ℤ) → (more : ℕ) → Scheduled → List ℤ → Bool
tests_pass p more e t =
    let from = length p + more in
    let names = p ++ (t ++ found p e t) in
    all_hold (box_tests from e.ranges) names && (all_hold (time_tests (length p) from (length p) e.times.forms) names && all_true_at (guard_tests (length p) more from e.around) names)

-- what a block takes
pub record Fine (p : List ℤ) (more : ℕ) (e : Scheduled) : Type 0 where
  pub names : length (loop_names e.around) ≡ length e.times.inverse
  pub wide : HaveColumns (length p + length e.times.inverse) e.times.forms
  pub inverse_wide : HaveColumns (length p + more) e.times.inverse
  pub components : length e.times.forms ≡ more
  pub outwards : see_outwards (length p) e.around ≡ true

module _ (source : Program) (p : List ℤ) (more : ℕ) where
  abbrev runs : Scheduled → List ℤ → Instance
  runs = instance_at (λ (e : Scheduled). e.statement) (tests_pass p more) (found p)

  block_does : (e : Scheduled) (t : List ℤ) → Fine p more e → length t ≡ more → slice_get (assignments source) e.statement ≡ Some e.assignment
      → by_stmt effects_step (block_of (length p) more e) (p ++ t) ≡ map (effect source p) (if tests_pass p more e t then runs e t ∷ [] else [])
  block_does e t fine l a =
      let xs : List ℤ = found p e t in
      let names : List ℤ = p ++ (t ++ xs) in
      let from : ℕ = length p + more in
      let inner : List Stmt = moved_assign (length p) more e.assignment ∷ [] in
      let third : List Stmt = guarded (length p) more from e.around inner in
      let second : List Stmt = if_any (time_tests (length p) from (length p) e.times.forms) third in
      let first : List Stmt = if_any (box_tests from e.ranges) second in
      let columns : HaveColumns (length p + length t) e.times.inverse = subst (λ n. HaveColumns (length p + n) e.times.inverse) (sym l) fine.inverse_wide in
      let does : done_by inner names ≡ effect source p (runs e t) ∷ [] =
      ap (λ n. done_by (moved_assign (length p) n e.assignment ∷ []) names) (sym l)
      ∙ ap (λ x. x ∷ []) (moved_effect p t xs e.assignment)
      ∙ ap (λ o. effect_by o (p ++ xs) ∷ []) (sym a) in
      one_block (locals_of (length p) (loop_names e.around) e.times.inverse) first (p ++ t)
      ∙ ap (λ m. done_by first (with_all (locals_of (length p) (loop_names e.around) e.times.inverse) (p ++ m))) (sym (append_nil t))
      ∙ ap (done_by first) (locals_are p t [] (loop_names e.around) e.times.inverse (length p) refl fine.names columns)
      ∙ one_if (box_tests from e.ranges) second names
      ∙ ap (λ l. if all_hold (box_tests from e.ranges) names then l else []) (one_if (time_tests (length p) from (length p) e.times.forms) third names
      ∙ ap (λ l. if all_hold (time_tests (length p) from (length p) e.times.forms) names then l else []) (guarded_does (length p) more from e.around inner names
      ∙ ap (λ l. if all_true_at (guard_tests (length p) more from e.around) names then l else []) does))
      ∙ nested (all_hold (box_tests from e.ranges) names) (all_hold (time_tests (length p) from (length p) e.times.forms) names) (all_true_at (guard_tests (length p) more from e.around) names) (effect source p (runs e t) ∷ [])
      ∙ map_if (effect source p) (tests_pass p more e t) (runs e t)

  blocks_do : (es : List Scheduled) (t : List ℤ) → length t ≡ more → ((e : Scheduled) → IsIn e es → Fine p more e × (slice_get (assignments source) e.statement ≡ Some e.assignment))
      → done_by (map (block_of (length p) more) es) (p ++ t) ≡ map (effect source p) (let_through (λ (e : Scheduled). e.statement) (tests_pass p more) (found p) es t)
  blocks_do [] t l fine = refl
  blocks_do (e ∷ es) t l fine =
      let f = fine e (inl refl) in
      ap (λ m. m ++ done_by (map (block_of (length p) more) es) (p ++ t)) (block_does e t f.0 l f.1)
      ∙ ap (λ m. map (effect source p) (if tests_pass p more e t then runs e t ∷ [] else []) ++ m) (blocks_do es t l (λ g i. fine g (inr i)))
      ∙ sym (map_append (effect source p) (if tests_pass p more e t then runs e t ∷ [] else []) (let_through (λ (e : Scheduled). e.statement) (tests_pass p more) (found p) es t))

  -- ---- what the tests say

  times_tested : (e : Scheduled) (t xs : List ℤ) → length t ≡ more
      → all_hold (time_tests (length p) (length p + more) (length p) e.times.forms) (p ++ (t ++ xs)) ≡ all_hold (time_tests (length p) (length (p ++ t)) (length p) e.times.forms) (p ++ (t ++ xs))
  times_tested e t xs l =
      let n : length p + more ≡ length (p ++ t) = ap (λ u. length p + u) (sym l) ∙ sym (length_append p t) in
      ap (λ u. all_hold (time_tests (length p) u (length p) e.times.forms) (p ++ (t ++ xs))) n

  guards_tested : (e : Scheduled) (t xs : List ℤ) → length t ≡ more → see_outwards (length p) e.around ≡ true → length (loop_names e.around) ≡ length xs
      → all_true_at (guard_tests (length p) more (length p + more) e.around) (p ++ (t ++ xs)) ≡ turns e.around p xs
  guards_tested e t xs l s n =
      let from : length p + more ≡ length (p ++ (t ++ [])) = ap (λ u. length p + u) (sym l) ∙ sym (length_append p t) ∙ ap (λ m. length (p ++ m)) (sym (append_nil t)) in
      ap (λ u. all_true_at (guard_tests (length p) u (length p + more) e.around) (p ++ (t ++ xs))) (sym l)
      ∙ guards_hold p t e.around [] xs (length p + more) from (subst (λ m. see_outwards (length m) e.around ≡ true) (sym (append_nil p)) s) n
      ∙ ap (λ m. turns e.around m xs) (append_nil p)

  box_tested : (e : Scheduled) (t xs : List ℤ) → length t ≡ more → InBox e.ranges xs → all_hold (box_tests (length p + more) e.ranges) (p ++ (t ++ xs)) ≡ true
  box_tested e t xs l b =
      let from : length p + more ≡ length (p ++ t) = ap (λ u. length p + u) (sym l) ∙ sym (length_append p t) in
      ap (all_hold (box_tests (length p + more) e.ranges)) (sym (append_assoc p t xs)) ∙ box_true (p ++ t) xs e.ranges (length p + more) from b

map_same : {A : Type 0} (xs : List A) → xs ≡ map (λ x. x) xs
map_same [] = refl
map_same (x ∷ xs) = ap (λ l. x ∷ l) (map_same xs)

pub own_places : (source : Program) (p : List ℤ) → effect source p ≡ placed (λ x. x) (effect source p)
own_places source p = λ i b. record { loads = map_same (effect source p b).loads i; stores = (effect source p b).stores; value = (effect source p b).value }

-- ---- entries of the program's lists

module _ (source : Program) (n : ℕ) (maps : List TimeMap) (ends : List (Ix × Ix)) (boxes : List (Option (List (ℤ × ℤ)))) (p : List ℤ)
    (schedule : IsScheduleOf source (Time n maps)) (numbers : length p ≡ numbers_in source.params) (components : length ends ≡ n)
    (outwards : (k : ℕ) (gs : List Round) → slice_get (rounds source) k ≡ Some gs → see_outwards (length p) gs ≡ true)
    (encloses : Encloses source boxes p) (hold : (a : Instance) → IsIn a (trace source p) → LiesBetween ends p (time_of maps p a)) where
  abbrev more : ℕ
  more = length ends

  abbrev times : List (List ℤ)
  times = points ends p

  as_long : (t : List ℤ) → IsIn t times → length t ≡ more
  as_long t i = between_length ends p t (in_points ends p t i)

  abbrev all : List Scheduled
  all = scheduled_from 0 (rounds source) (assignments source) maps boxes

  wide_of : (m : TimeMap) (loops : ℕ) → IsMapOf (numbers_in source.params) loops n m → HaveColumns (length p + length m.inverse) m.forms
  wide_of m loops shape =
      let c : columns_of m.forms ≡ numbers_in source.params + loops = shape.columns in
      let i : length m.inverse ≡ loops = shape.iterators in
      let e : columns_of m.forms ≡ length p + length m.inverse = omega arith in
      subst (λ u. HaveColumns u m.forms) e m.shaped

  inverse_of : (m : TimeMap) (loops : ℕ) → IsMapOf (numbers_in source.params) loops n m → HaveColumns (length p + more) m.inverse
  inverse_of m loops shape =
      let c : columns_of m.forms ≡ numbers_in source.params + loops = shape.columns in
      let i : length m.inverse ≡ loops = shape.iterators in
      let f : length m.forms ≡ n = shape.components in
      let e : columns_of m.forms - length m.inverse + length m.forms ≡ length p + more = omega arith in
      subst (λ u. HaveColumns u m.inverse) e m.inverse_shaped

  -- it has what the program has at its number
  pub record Parts (e : Scheduled) : Type 0 where
    pub its_guards : slice_get (rounds source) e.statement ≡ Some e.around
    pub its_assignment : slice_get (assignments source) e.statement ≡ Some e.assignment
    pub its_times : slice_get maps e.statement ≡ Some e.times

  pub parts : (e : Scheduled) → IsIn e all → Parts e
  parts e i =
      let h = is_scheduled_at 0 (rounds source) (assignments source) maps boxes e i in
      let k : e.statement ≡ h.at = (let q : e.statement ≡ 0 + h.at = h.number in omega arith) in
      record {
        its_guards = ap (slice_get (rounds source)) k ∙ h.its_guards;
        its_assignment = ap (slice_get (assignments source)) k ∙ h.its_assignment;
        its_times = ap (slice_get maps) k ∙ h.its_times;
      }

  pub fine : (e : Scheduled) → Parts e → Fine p more e
  fine e h =
      let shape = shape_of source n maps schedule e.statement e.around e.times h.its_guards h.its_times in
      let f : length e.times.forms ≡ n = shape.components in
      record {
        names = sym shape.iterators;
        wide = wide_of e.times (length (loop_names e.around)) shape;
        inverse_wide = inverse_of e.times (length (loop_names e.around)) shape;
        components = f ∙ sym components;
        outwards = outwards e.statement e.around h.its_guards;
      }

  pub found_length : (e : Scheduled) (t : List ℤ) → Fine p more e → length (loop_names e.around) ≡ length (found p e t)
  found_length e t f = f.names ∙ sym (values_long e.times.inverse (p ++ t))

  pub forms_wide : (e : Scheduled) (t : List ℤ) → Fine p more e → HaveColumns (length p + length (found p e t)) e.times.forms
  forms_wide e t f = subst (λ u. HaveColumns (length p + u) e.times.forms) (sym (values_long e.times.inverse (p ++ t))) f.wide

  sound : (e : Scheduled) (t : List ℤ) → IsIn e all → IsIn t times → tests_pass p more e t ≡ true
      → IsIn (runs source p more e t) (trace source p) × (time_of maps p (runs source p more e t) ≡ t)
  sound e t i j pass =
      let h = parts e i in
      let f = fine e h in
      let l : length t ≡ more = as_long t j in
      let xs : List ℤ = found p e t in
      let names : List ℤ = p ++ (t ++ xs) in
      let from : ℕ = length p + more in
      let b = both_true (all_hold (box_tests from e.ranges) names) (all_hold (time_tests (length p) from (length p) e.times.forms) names && all_true_at (guard_tests (length p) more from e.around) names) pass in
      let c = both_true (all_hold (time_tests (length p) from (length p) e.times.forms) names) (all_true_at (guard_tests (length p) more from e.around) names) b.1 in
      let time : values_of e.times.forms (p ++ xs) ≡ t =
      true_times p t xs e.times.forms [] t (length p) (ap length (sym (append_nil p))) refl (forms_wide e t f) (f.components ∙ sym l) (sym (times_tested source p more e t xs l) ∙ c.0) in
      let run : turns e.around p xs ≡ true = sym (guards_tested source p more e t xs l f.outwards (found_length e t f)) ∙ c.1 in
      ((instances_turn source p (runs source p more e t)).1 (e.around, h.its_guards, run), ap (λ o. time_by o (p ++ xs)) h.its_times ∙ time)

  complete : (a : Instance) → IsIn a (trace source p)
      → (e : Scheduled) × IsIn e all × (e.statement ≡ a.statement) × IsIn (time_of maps p a) times × (tests_pass p more e (time_of maps p a) ≡ true) × (found p e (time_of maps p a) ≡ a.iterators)
  complete a i =
      let k : ℕ = a.statement in
      let t : List ℤ = time_of maps p a in
      let box = encloses a i in
      let run = (instances_turn source p a).0 i in
      let a' = has_assignment source k run.0 run.1 in
      let m = map_of (numbers_in source.params) n (loops_round source) maps schedule k (length (loop_names run.0)) (loops_are source k run.0 run.1) in
      let e : Scheduled = record { statement = 0 + k; around = run.0; assignment = a'.0; times = m.0; ranges = box.0 } in
      let in_all : IsIn e all = has_scheduled 0 (rounds source) (assignments source) maps boxes k run.0 a'.0 m.0 box.0 run.1 a'.1 m.1 box.1 in
      let f = fine e (parts e in_all) in
      let time : t ≡ values_of (m.0).forms (p ++ a.iterators) = ap (λ o. time_by o (p ++ a.iterators)) m.1 in
      let within : IsIn t times = to_points ends p t (hold a i) in
      let l : length t ≡ more = as_long t within in
      let loops_equal : length (loop_names run.0) ≡ length a.iterators = same_Some (length (loop_names run.0)) (length a.iterators) (sym (loops_are source k run.0 run.1) ∙ depth source p a i) in
      let columns : length p + length a.iterators ≡ columns_of (m.0).forms =
      (let c : columns_of (m.0).forms ≡ numbers_in source.params + length (loop_names run.0) = (m.2).columns in omega arith) in
      let back : found p e t ≡ a.iterators =
      ap (λ u. values_of (m.0).inverse (p ++ u)) time
      ∙ recovers (m.0).forms (m.0).inverse (m.0).shaped (m.0).inverse_shaped (m.0).inverts p a.iterators (sym loops_equal ∙ sym (m.2).iterators) columns in
      let xs : List ℤ = found p e t in
      let names : List ℤ = p ++ (t ++ xs) in
      let from : ℕ = length p + more in
      let boxes_hold = box_tested source p more e t xs l (subst (InBox box.0) (sym back) box.2) in
      let times_hold : all_hold (time_tests (length p) from (length p) e.times.forms) names ≡ true =
      times_tested source p more e t xs l
      ∙ times_true p t xs e.times.forms [] t (length p) (ap length (sym (append_nil p))) refl (forms_wide e t f) (ap (λ u. values_of (m.0).forms (p ++ u)) back ∙ sym time) in
      let guards_hold' : all_true_at (guard_tests (length p) more from e.around) names ≡ true =
      guards_tested source p more e t xs l f.outwards (found_length e t f) ∙ ap (turns run.0 p) back ∙ run.2 in (
        e,
        in_all,
        (let z : 0 + k ≡ k = omega arith in z),
        within,
        true_both (all_hold (box_tests from e.ranges) names) (all_hold (time_tests (length p) from (length p) e.times.forms) names && all_true_at (guard_tests (length p) more from e.around) names) boxes_hold
            (true_both (all_hold (time_tests (length p) from (length p) e.times.forms) names) (all_true_at (guard_tests (length p) more from e.around) names) times_hold guards_hold'),
        back,
      )

  finds : Finds (λ (e : Scheduled). e.statement) (tests_pass p more) (found p) times all (trace source p) (time_of maps p)
  finds = record { sound = sound; complete = complete }

  body_does : (es : List Scheduled) → done_by (body_between (length p) ends es) p ≡ flat_map (λ t. done_by (map (block_of (length p) more) es) (p ++ t)) times
  body_does [] = flat_none (λ t. done_by (map (block_of (length p) more) []) (p ++ t)) (λ t. refl) times
  body_does (e ∷ es) = loops_do ends 0 (map (block_of (length p) more) (e ∷ es)) p

  -- the statements of the printed program
  pub does : done_by (body_between (numbers_in source.params) ends all) p ≡ map (placed (λ x. x) (effect source p)) (target source (Time n maps) p)
  does =
      ap (λ q. done_by (body_between q ends all) p) (sym numbers)
      ∙ body_does all
      ∙ flat_same_in (λ t. done_by (map (block_of (length p) more) all) (p ++ t)) (λ t. map (effect source p) (let_through (λ (e : Scheduled). e.statement) (tests_pass p more) (found p) all t)) times
      (λ t i. blocks_do source p more all t (as_long t i) (λ e j. let h = parts e j in (fine e h, h.its_assignment)))
      ∙ map_flat (effect source p) (let_through (λ (e : Scheduled). e.statement) (tests_pass p more) (found p) all) times
      ∙ ap (map (effect source p)) (scan_is_target source n maps p schedule numbers (λ (e : Scheduled). e.statement) (tests_pass p more) (found p) times all (points_rise ends p)
      (scheduled_rise 0 (rounds source) (assignments source) maps boxes) finds)
      ∙ ap (λ f. map f (target source (Time n maps) p)) (own_places source p)

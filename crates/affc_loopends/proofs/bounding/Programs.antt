-- Every program that has loops for a schedule is scanned.
use Rattle.std.proofs.Common.{◌≡◌, ℕ, zero, suc, ◌+◌, ◌*◌, ◌^◌, ◌<◌, ◌≤◌, ℤ, List, [], ◌∷◌, ◌++◌, length, Option, Some, None, refl, sym, ap, subst, inl, inr, arith}
use Rattle.std.proofs.lemmas.List.{length-append}
use Rattle.affc_rows.specs.Forms.{HaveColumns}
use Rattle.affc_system.specs.Systems.{Rows}
use Rattle.affc_ast.specs.declared.tree.Program.{Program}
use Rattle.affc_ast.specs.Trace.{Assignment, assignments}
use Rattle.affc_trace.specs.declared.schedule.Schedule.TheVariants.{Source, Time}
use Rattle.affc_trace.specs.declared.schedule.TimeMap.{TimeMap}
use Rattle.affc_trace.specs.Law.{IsIn}
use Rattle.affc_trace.specs.Target.{numbers_in}
use Rattle.affc_domain.specs.Ranges.{number_ranges}
use Rattle.affc_domain.specs.Rounds.{Round, rounds}
use Rattle.affc_domain.proofs.RangeLemmas.{numbers_are}
use Rattle.affc_loops.specs.Between.{program_between}
use Rattle.affc_loops.specs.Ends.{ends_of}
use Rattle.affc_loops.specs.Laws.{HasLoops}
use Rattle.affc_loops.specs.Loops.{Scheduled, boxes, scheduled, scheduled_from, time_ranges}
use Rattle.affc_loops.proofs.BetweenLaws.{few}
use Rattle.affc_loopends.specs.declared.bounds.Bounds.{Bounds}
use Rattle.affc_loopends.specs.declared.bounds.Bounds.TheVariants.{Between, Loose as Without}
use Rattle.affc_loopends.specs.TimeRows.{system_of}
use Rattle.affc_loopends.specs.TimeSets.{timed_in}
use Rattle.affc_loopends.specs.Whys.{AreBoundsFrom}
use Rattle.affc_loopends.proofs.Extended.{system_wide}
use Rattle.affc_loopends.specs.declared.scanned.scanned.Scanned.{Scanned}
use Rattle.affc_loopends.specs.scanned.Scanned.{loose_from, AreBounds, AreBoundsOfEach, all_loose, all_sides, Scans}
use Rattle.affc_loopends.proofs.scanned.Rows.{is_own}
use Rattle.affc_loopends.specs.bounding.Laws.{ProgramsScan}
use Rattle.affc_loopends.proofs.bounding.Bounded.{columns_have_bounds}
use Rattle.affc_loopends.proofs.bounding.Vecs.{vec_of}
use Rattle.affc_loopends.proofs.bounding.Numbers.{one_more, both_more}

-- ---- One statement

bounds_from : (system : Rows) (ranges : List (ℤ × ℤ)) → HaveColumns system.columns system.rows → (column count : ℕ) → column + count ≤ system.columns → (bs : List Bounds) × (length bs ≡ count) × AreBoundsFrom system column ranges bs
bounds_from system ranges w column zero le = ([], refl, tt)
bounds_from system ranges w column (suc count) le =
    let b = columns_have_bounds system column ranges w (here column count system.columns le) in
    let bs = bounds_from system ranges w (suc column) count (later column count system.columns le) in
    (b.0 ∷ bs.0, ap suc bs.1, (b.1, bs.2))
  where
    here : (j n k : ℕ) → j + suc n ≤ k → j < k
    here j n k h = omega arith

    later : (j n k : ℕ) → j + suc n ≤ k → suc j + n ≤ k
    later j n k h = omega arith

bounds_in : (program : Program) (ranges : List (ℤ × ℤ)) (e : Scheduled) → (bs : List Bounds) × AreBounds program ranges e bs
bounds_in program ranges e =
    let s = timed_in program e.around e.ranges e.times in
    let bs = bounds_from (system_of s) (number_ranges program.params ++ ranges) (system_wide s) (numbers_in program.params) (length e.times.forms)
    (within (numbers_in program.params) (length (number_ranges program.params)) (length e.times.forms) (numbers_are program.params)) in
    (bs.0, record { one_each = bs.1; projected = bs.2 })
  where
    within : (a b n : ℕ) → a ≡ b → a + n ≤ b + n
    within a b n e = omega arith

-- ---- All statements

bounds_of_each : (program : Program) (ranges : List (ℤ × ℤ)) (es : List Scheduled) → (bss : List (List Bounds)) × AreBoundsOfEach program ranges es bss
bounds_of_each program ranges [] = ([], tt)
bounds_of_each program ranges (e ∷ es) =
    let b = bounds_in program ranges e in
    let bs = bounds_of_each program ranges es in
    (b.0 ∷ bs.0, (b.1, bs.1))

-- ---- The loose components are few

few_from : (statement component : ℕ) (bs : List Bounds) → length (loose_from statement component bs) ≤ length bs
few_from statement component [] = omega arith
few_from statement component (Between lower upper ∷ bs) = one_more (length (loose_from statement (suc component) bs)) (length bs) (few_from statement (suc component) bs)
few_from statement component (Without why ∷ bs) = both_more (length (loose_from statement (suc component) bs)) (length bs) (few_from statement (suc component) bs)

few_in_all : (l a b n m : ℕ) → l ≡ a + b → a ≤ n → n ≤ 12 → b ≤ m * 12 → l ≤ suc m * 12
few_in_all l a b n m e h k g = omega arith

few_loose : (program : Program) (ranges : List (ℤ × ℤ)) (es : List Scheduled) (bss : List (List Bounds)) → ((e : Scheduled) → IsIn e es → length e.times.forms ≤ 12) → AreBoundsOfEach program ranges es bss
    → length (all_loose es bss) ≤ length es * 12
few_loose program ranges [] [] small h = omega arith
few_loose program ranges [] (bs ∷ bss) small h = absurd h
few_loose program ranges (e ∷ es) [] small h = absurd h
few_loose program ranges (e ∷ es) (bs ∷ bss) small h =
    few_in_all (length (loose_from e.statement 0 bs ++ all_loose es bss)) (length (loose_from e.statement 0 bs)) (length (all_loose es bss)) (length bs) (length es)
    (length-append (loose_from e.statement 0 bs) (all_loose es bss)) (few_from e.statement 0 bs) (subst (λ n. n ≤ 12) (sym (h.0).one_each) (small e (inl refl)))
    (few_loose program ranges es bss (λ f i. small f (inr i)) h.1)

few_scheduled : (k : ℕ) (rss : List (List Round)) (as' : List Assignment) (ms : List TimeMap) (bs : List (Option (List (ℤ × ℤ)))) → length (scheduled_from k rss as' ms bs) ≤ length as'
few_scheduled k [] as' ms bs = omega arith
few_scheduled k (rs ∷ rss) [] ms bs = omega arith
few_scheduled k (rs ∷ rss) (a ∷ as') [] bs = omega arith
few_scheduled k (rs ∷ rss) (a ∷ as') (m ∷ ms) [] = omega arith
few_scheduled k (rs ∷ rss) (a ∷ as') (m ∷ ms) (Some box ∷ bs) = both_more (length (scheduled_from (suc k) rss as' ms bs)) (length as') (few_scheduled (suc k) rss as' ms bs)
few_scheduled k (rs ∷ rss) (a ∷ as') (m ∷ ms) (None ∷ bs) = one_more (length (scheduled_from (suc k) rss as' ms bs)) (length as') (few_scheduled (suc k) rss as' ms bs)

all_small : (l n m : ℕ) → l ≤ n * 12 → n ≤ m → m ≤ 64 → l < 2 ^ 63
all_small l n m h k g = omega arith

-- ---- Programs

module _ (program : Program) (n : ℕ) (maps : List TimeMap) (h : HasLoops program (Time n maps)) where
  its_components : (e : Scheduled) → IsIn e (scheduled program maps) → length e.times.forms ≤ 12
  its_components e i = subst (λ k. k ≤ 12) (sym (is_own program n maps h e i).map_of.components) (few program n maps h)

  scanned : (s : Scanned) × Scans program (Time n maps) s
  scanned =
      let es = scheduled program maps in
      let ranges = time_ranges (number_ranges program.params) es in
      let b = bounds_of_each program ranges es in
      let loose = all_loose es b.0 in
      let small : length loose < 2 ^ 63 = all_small (length loose) (length es) (length (assignments program)) (few_loose program ranges es b.0 its_components b.1)
      (few_scheduled 0 (rounds program) (assignments program) maps (boxes program)) (h.plain).few_assignments in
      (record { program = program_between program maps (ends_of program maps (all_sides b.0)); loose = vec_of loose small }, record { bounds = b.0; are_bounds = b.1; is = refl; loose = refl })

pub programs_scan : ProgramsScan
programs_scan program Source h = (record { program = program; loose = vec_of [] (omega arith) }, (refl, refl))
programs_scan program (Time n maps) h = scanned program n maps h

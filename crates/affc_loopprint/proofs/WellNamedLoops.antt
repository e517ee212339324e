-- A program that has room for loops is well named, and so are its loops between ends by printable rows.
use Rattle.std.proofs.Common.{◌≡◌, ℕ, suc, ◌≤◌, ℤ, true, List, [], ◌∷◌, length, Option, Some, None, sym, ap, subst, arith}
use Rattle.std.proofs.lemmas.Bool.{and_from}
use Rattle.affc_ast.specs.declared.tree.Ix.{Ix}
use Rattle.affc_ast.specs.declared.tree.Program.{Program}
use Rattle.affc_ast.specs.Trace.{Assignment, assignments}
use Rattle.affc_trace.specs.declared.schedule.TimeMap.{TimeMap}
use Rattle.affc_trace.specs.declared.schedule.Schedule.TheVariants.{Time}
use Rattle.affc_trace.specs.Law.{IsIn}
use Rattle.affc_trace.specs.Target.{numbers_in}
use Rattle.affc_domain.specs.Ranges.{number_ranges}
use Rattle.affc_domain.specs.Rounds.{Round, rounds}
use Rattle.affc_domain.proofs.PlainLemmas.{rounds_of_each}
use Rattle.affc_grammar.specs.Reads.{WellNamed}
use Rattle.affc_domain.proofs.RangeLemmas.{numbers_are}
use Rattle.affc_loops.specs.Between.{program_between}
use Rattle.affc_loops.specs.Ends.{Sides, ends_of}
use Rattle.affc_loops.specs.Laws.{HasLoops, HaveSameLoops}
use Rattle.affc_loops.specs.Loops.{Scheduled, boxes, scheduled_from, scheduled}
use Rattle.affc_loops.proofs.BetweenLaws.{few}
use Rattle.affc_cprint.specs.Forms.{program_passes}
use Rattle.affc_wellnamed.specs.Known.{program_known}
use Rattle.affc_wellnamed.specs.Plain.{is_plain}
use Rattle.affc_wellnamed.specs.Work.{program_fits}
use Rattle.affc_wellnamed.specs.Shape.{program_shape, is_bounded}
use Rattle.affc_wellnamed.proofs.Decides.{kept_is_well_named}
use Rattle.affc_loopprint.specs.Laws.{SpareWellNamed, BetweenWellNamed}
use Rattle.affc_loopprint.specs.Rows.{ArePrintableOfEach}
use Rattle.affc_loopprint.specs.Spare.{IsSpare}
use Rattle.affc_loopprint.proofs.EndCases.{EndCases, EndsFrom, ends_long, ends_low, all_have}
use Rattle.affc_loopprint.proofs.Fitting.{Fitting, fitting, times_count, times_fit}
use Rattle.affc_loopprint.proofs.KnownAround.{all_known, known_body}
use Rattle.affc_loopprint.proofs.KnownBlocks.{Sized}
use Rattle.affc_loopprint.proofs.KnownEnds.{KnownAt, known_cases}
use Rattle.affc_loopprint.proofs.KnownHeads.{loops_known}
use Rattle.affc_loopprint.proofs.Passes.{Slight, all_around, body_passes, loops_pass}
use Rattle.affc_loopprint.proofs.PlainEnds.{PlainAt, plain_cases}
use Rattle.affc_loopprint.proofs.Works.{all_free, all_around_fit, loops_fit}
use Rattle.affc_loopprint.proofs.ShapeEnds.{FormFew, EndFew, few_cases}
use Rattle.affc_loopprint.proofs.ShapeLoops.{loops_bounded}

pub kept : (program : Program) → program_known program ≡ true → program_passes is_plain program ≡ true → program_fits program ≡ true → is_bounded (program_shape program) ≡ true → WellNamed program
kept program a b c d = kept_is_well_named program (and_from (program_known program) _ a (and_from (program_passes is_plain program) _ b (and_from (program_fits program) _ c d)))

-- at most as many statements as the program has
few_scheduled : (k : ℕ) (rss : List (List Round)) (as' : List Assignment) (ms : List TimeMap) (boxes : List (Option (List (ℤ × ℤ)))) → length (scheduled_from k rss as' ms boxes) ≤ length rss
few_scheduled k [] as' ms boxes = omega arith
few_scheduled k (rs ∷ rss) [] ms boxes = omega arith
few_scheduled k (rs ∷ rss) (a ∷ as') [] boxes = omega arith
few_scheduled k (rs ∷ rss) (a ∷ as') (m ∷ ms) [] = omega arith
few_scheduled k (rs ∷ rss) (a ∷ as') (m ∷ ms) (Some box ∷ boxes) = let h = few_scheduled (suc k) rss as' ms boxes in omega (arith, h)
few_scheduled k (rs ∷ rss) (a ∷ as') (m ∷ ms) (None ∷ boxes) = let h = few_scheduled (suc k) rss as' ms boxes in omega (arith, h)

module _ (source other : Program) (n : ℕ) (maps : List TimeMap) (rows : List (List Sides)) (has : HasLoops source (Time n maps)) (same : HaveSameLoops source other) (spare : IsSpare other)
    (printable : ArePrintableOfEach (numbers_in other.params) n (scheduled other maps) rows) where
  abbrev first : ℕ
  first = numbers_in other.params

  abbrev es : List Scheduled
  es = scheduled other maps

  abbrev ends : List (Ix × Ix)
  ends = ends_of other maps rows

  statements : length es ≤ 64
  statements =
      let a = few_scheduled 0 (rounds other) (assignments other) maps (boxes other) in
      let b = ap length same.same_rounds in
      let c = rounds_of_each source in
      let d = has.plain.few_assignments in
      omega (arith, a, b, c, d)

  numbers : first ≤ 4
  numbers =
      let a = ap length same.same_ranges in
      let b = numbers_are other.params in
      let c = has.plain.few_numbers in
      omega (arith, a, b, c)

  long : (e : Scheduled) → IsIn e es → length ends ≡ n
  long e i = ends_long first n (number_ranges other.params) es rows printable (times_count source other n maps has same) e i

  low : length ends ≤ 12
  low =
      let l = ends_low first n (number_ranges other.params) es rows printable (times_count source other n maps has same) in
      let f = few source n maps has in
      omega (arith, l, f)

  -- what holds of all ends that are made so
  all_ends_have : (F : ℕ → Ix → Type 0) (P : ℕ → ℕ → ℕ → Ix → Type 0) → EndCases first F P → EndsFrom (P 576 71) first ends
  all_ends_have F P c = all_have first F P c n (number_ranges other.params) es rows printable statements (times_fit source other n maps has same)

  abbrev Fit : Scheduled → Type 0
  Fit e = Fitting other n e

  sized : (e : Scheduled) → IsIn e es → Sized first (length ends) e
  sized e i =
      let f : Fit e = fitting source other n maps has same e i in
      subst (λ m. Sized first m e) (sym (long e i)) (record {
        box = f.box;
        near = f.near;
        components = f.components;
        iterators = f.iterators;
        columns = f.columns;
        inverse_columns = f.inverse_columns;
        slight = f.slight;
        inverse_slight = f.inverse_slight;
      })

  slight : (e : Scheduled) → IsIn e es → Slight e
  slight e i =
      let f : Fit e = fitting source other n maps has same e i in
      record { near = f.near; slight = f.slight; inverse_slight = f.inverse_slight; around = all_around other (body_passes other spare.plain) f.at e.around e.assignment f.its_rounds f.its_assignment }

  pub ends_well_named : WellNamed (program_between other maps ends)
  ends_well_named =
      kept (program_between other maps ends)
      (loops_known other ends es spare.known low (all_ends_have KnownAt (λ operands deep. KnownAt) (known_cases first)) (λ e i.
      let f : Fit e = fitting source other n maps has same e i in
      (sized e i, all_known other (known_body other spare.known) spare.bare f.at e.around e.assignment f.its_rounds f.its_assignment, spare.iterators f.at e.around f.its_rounds)))
      (loops_pass other ends es spare.plain (all_ends_have PlainAt (λ operands deep. PlainAt) (plain_cases first)) slight)
      (loops_fit other ends es spare.fits statements low (λ e i. let f : Fit e = fitting source other n maps has same e i in all_free other spare.fits f.at e.around e.assignment f.its_rounds f.its_assignment)
      (λ e i. let f : Fit e = fitting source other n maps has same e i in all_around_fit other spare.fits f.at e.around e.assignment f.its_rounds f.its_assignment))
      (loops_bounded other spare.short n ends es numbers (few source n maps has) statements low (all_ends_have FormFew EndFew (few_cases first)) (fitting source other n maps has same))

pub spare_well_named : SpareWellNamed
spare_well_named program spare = kept program spare.known spare.plain spare.fits spare.short.bounded

pub between_well_named : BetweenWellNamed
between_well_named = ends_well_named

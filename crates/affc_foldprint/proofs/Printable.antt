-- The rows of bounds are few and small enough to be printed.
use Rattle.std.proofs.Common.{ℕ, suc, ℤ, List, [], ◌∷◌, ◌++◌, map, refl, ◌∙◌, inl, inr, arith}
use Rattle.std.proofs.lemmas.List.{length-map}
use Rattle.std.proofs.lemmas.List.Elements.{All-nil}
use Rattle.affc_system.specs.Systems.{Rows}
use Rattle.affc_ast.specs.declared.tree.Program.{Program}
use Rattle.affc_trace.specs.declared.schedule.Schedule.TheVariants.{Time}
use Rattle.affc_trace.specs.declared.schedule.TimeMap.{TimeMap}
use Rattle.affc_trace.specs.Law.{IsIn}
use Rattle.affc_trace.specs.Target.{numbers_in}
use Rattle.affc_domain.specs.Ranges.{number_ranges}
use Rattle.affc_loops.specs.Ends.{BoundsBelow, BoundsAbove}
use Rattle.affc_loops.specs.Laws.{HasLoops, HaveSameLoops}
use Rattle.affc_loops.specs.Loops.{Scheduled, scheduled}
use Rattle.affc_loopends.specs.declared.bounds.Bounds.{Bounds}
use Rattle.affc_loopends.specs.declared.bounds.Bounds.TheVariants.{Between, Loose as Without}
use Rattle.affc_loopends.specs.TimeRows.{system_of}
use Rattle.affc_loopends.specs.TimeSets.{timed_in}
use Rattle.affc_loopends.specs.Whys.{AreBoundsFrom}
use Rattle.affc_loopends.specs.scanned.Scanned.{sides_of, AreBoundsOfEach, all_sides}
use Rattle.affc_loopends.proofs.scanned.Rows.{sides_from}
use Rattle.affc_loopprint.specs.Rows.{IsPrintable, ArePrintable, ArePrintableFrom, ArePrintableOfEach}
use Rattle.affc_loopprint.proofs.Fitting.{fitting}

none_printable : (column : ℕ) → ArePrintable column ([], [])
none_printable column = record {
  few_lower = omega arith;
  few_upper = omega arith;
  lower = All-nil (IsPrintable column);
  upper = All-nil (IsPrintable column);
  below = All-nil (BoundsBelow column);
  above = All-nil (BoundsAbove column);
}

printable_from : (system : Rows) (column : ℕ) (known : List (ℤ × ℤ)) (bs : List Bounds) → AreBoundsFrom system column known bs → ArePrintableFrom column (map sides_of bs)
printable_from system column known [] b = tt
printable_from system column known (Between lower upper ∷ bs) b =
    let ends = (b.0).0 in
    let sides = (sides_from system column known (Between lower upper ∷ bs) b).0 in (
      record {
        few_lower = ends.few_lower;
        few_upper = ends.few_upper;
        lower = λ i d lt. record { width = (sides.lower i d lt).width; coefs = ((b.0).1 i d lt).coefs; constant = ((b.0).1 i d lt).constant };
        upper = λ i d lt. record { width = (sides.upper i d lt).width; coefs = ((b.0).2 i d lt).coefs; constant = ((b.0).2 i d lt).constant };
        below = sides.below;
        above = sides.above;
      },
      printable_from system (suc column) known bs b.1,
    )
printable_from system column known (Without why ∷ bs) b = (none_printable column, printable_from system (suc column) known bs b.1)

module _ (source other : Program) (n : ℕ) (maps : List TimeMap) (has : HasLoops source (Time n maps)) (same : HaveSameLoops source other) where
  each_printable : (ranges : List (ℤ × ℤ)) (es : List Scheduled) → ((e : Scheduled) → IsIn e es → IsIn e (scheduled other maps)) → (bss : List (List Bounds))
      → AreBoundsOfEach other ranges es bss → ArePrintableOfEach (numbers_in other.params) n es (all_sides bss)
  each_printable ranges [] sub [] b = tt
  each_printable ranges [] sub (bs ∷ bss) b = absurd b
  each_printable ranges (e ∷ es) sub [] b = absurd b
  each_printable ranges (e ∷ es) sub (bs ∷ bss) b = (
    length-map bs sides_of ∙ (b.0).one_each ∙ (fitting source other n maps has same e (sub e (inl refl))).components,
    printable_from (system_of (timed_in other e.around e.ranges e.times)) (numbers_in other.params) (number_ranges other.params ++ ranges) bs (b.0).projected,
    each_printable ranges es (λ f i. sub f (inr i)) bss b.1,
  )

  pub rows_printable : (ranges : List (ℤ × ℤ)) (bss : List (List Bounds)) → AreBoundsOfEach other ranges (scheduled other maps) bss → ArePrintableOfEach (numbers_in other.params) n (scheduled other maps) (all_sides bss)
  rows_printable ranges bss b = each_printable ranges (scheduled other maps) (λ e i. i) bss b

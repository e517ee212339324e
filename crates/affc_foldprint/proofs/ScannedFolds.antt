-- The loops of the folded program, as they are scanned, compile the source.
use Rattle.std.proofs.Common.{sym, subst}
use Rattle.affc_ast.specs.Compiles.{Compiles}
use Rattle.affc_grammar.specs.Reads.{WellNamed}
use Rattle.affc_trace.specs.declared.schedule.Schedule.TheVariants.{Source, Time}
use Rattle.affc_trace.specs.Laws.{in_target_order}
use Rattle.affc_basis.specs.Folds.{place}
use Rattle.affc_domain.specs.Ranges.{number_ranges}
use Rattle.affc_loops.specs.Loops.{scheduled, time_ranges}
use Rattle.affc_foldloops.proofs.FoldedLaws.{folded_source_compiles, folded_between_compile}
use Rattle.affc_rewrite.specs.Rewrite.{folded_program}
use Rattle.affc_rewrite.proofs.FoldsPrinted.{folded_program_replaces}
use Rattle.affc_loopends.specs.scanned.Laws.{ScansRunBetween, TurnsExtend}
use Rattle.affc_loopends.specs.scanned.Scanned.{IsBetween, all_sides}
use Rattle.affc_loopprint.specs.Laws.{SpareWellNamed, BetweenWellNamed}
use Rattle.affc_foldprint.specs.Laws.{FoldsWellNamed, FoldsCompile, FoldsRunTightly}
use Rattle.affc_foldprint.proofs.Printable.{rows_printable}
use Rattle.affc_foldprint.proofs.Scanned.{folded_loops, folds_keep_times}
use Rattle.affc_foldprint.proofs.Spare.{folds_spare}

module _ (named : SpareWellNamed) (between : BetweenWellNamed) where
  pub folds_well_named : FoldsWellNamed
  folds_well_named text source Source folds s r off has are limits scans = subst WellNamed (sym scans.0) (named (folded_program source folds) (folds_spare text source folds r off are limits))
  folds_well_named text source (Time n maps) folds s r off has are limits scans =
      let other = folded_program source folds in
      let own : IsBetween other maps s = scans in
      subst WellNamed (sym own.is)
      (between source other n maps (all_sides own.bounds) has (folded_loops source folds) (folds_spare text source folds r off are limits)
      (rows_printable source other n maps has (folded_loops source folds) (time_ranges (number_ranges other.params) (scheduled other maps)) own.bounds own.are_bounds))

module _ (runs : ScansRunBetween) where
  pub folds_compile : FoldsCompile
  folds_compile source Source folds s has limits scans =
      subst (λ q. Compiles q source (in_target_order Source) (place folds)) (sym scans.0)
      (folded_source_compiles (folded_program source folds) source folds has (folded_program_replaces source Source folds has limits))
  folds_compile source (Time n maps) folds s has limits scans =
      let other = folded_program source folds in
      let b = runs source other n maps s has.loops (folds_keep_times source folds) scans in
      subst (λ q. Compiles q source (in_target_order (Time n maps)) (place folds)) (sym b.is)
      (folded_between_compile other source n maps b.ends folds has (folded_program_replaces source (Time n maps) folds has limits) b.hold)

pub folds_run_tightly : TurnsExtend → FoldsRunTightly
folds_run_tightly extend source n maps folds e s has one scans none = extend source (folded_program source folds) n maps e s has (folds_keep_times source folds) one scans none

-- The loops of a scanned program run between ends that hold the times, and so run the target.
use Rattle.std.proofs.Common.{sym, subst}
use Rattle.affc_ast.specs.Compiles.{Compiles}
use Rattle.affc_trace.specs.declared.schedule.Schedule.TheVariants.{Source, Time}
use Rattle.affc_trace.specs.Laws.{RunsTarget, in_target_order}
use Rattle.affc_loops.specs.Between.{HoldTimes}
use Rattle.affc_loops.specs.Ends.{ends_of}
use Rattle.affc_loops.specs.Loops.{scheduled}
use Rattle.affc_loops.proofs.BetweenLaws.{between_run_target, between_compile}
use Rattle.affc_loops.proofs.SourceOrder.{source_runs_target, source_compiles}
use Rattle.affc_loops.proofs.RowLaws.{rows_hold_times, ends_same}
use Rattle.affc_loopends.specs.scanned.Laws.{ScansRunBetween, ScansRunTarget, ScansCompile}
use Rattle.affc_loopends.specs.scanned.Scanned.{IsBetween, all_sides}
use Rattle.affc_loopends.proofs.scanned.Rows.{each_rows}
use Rattle.affc_loopends.proofs.scanned.Same.{turned, its_times, bounds_same}

pub run_between : ScansRunBetween
run_between source other n maps s h same scans =
    let given : IsBetween other maps s = scans in
    let rows = all_sides given.bounds in
    let own = bounds_same other source (turned source other same) maps given.bounds given.are_bounds in
    record {
      ends = ends_of other maps rows;
      is = given.is;
      hold = λ p inside.
          subst (λ ends. HoldTimes source maps ends p) (sym (ends_same source other same.same_loops maps rows))
          (rows_hold_times source n maps rows p h inside.ranges (each_rows source n maps h p inside (scheduled source maps) (λ e i. i) given.bounds own));
    }

pub run_target : ScansRunTarget
run_target source Source s p store h scans inside extents keeps =
    subst (λ program. RunsTarget program source Source (λ x. x) p store) (sym scans.0) (source_runs_target source p store h inside.ranges extents keeps)
run_target source (Time n maps) s p store h scans inside extents keeps =
    let b = run_between source source n maps s h (its_times source) scans in
    subst (λ program. RunsTarget program source (Time n maps) (λ x. x) p store) (sym b.is)
    (between_run_target source n maps b.ends p store h inside.ranges (b.hold p inside) extents keeps)

pub compile : ScansCompile
compile source Source s h scans terminates legal =
    subst (λ program. Compiles program source (in_target_order Source) (λ p x. x)) (sym scans.0) (source_compiles source h terminates legal)
compile source (Time n maps) s h scans terminates legal =
    let b = run_between source source n maps s h (its_times source) scans in
    subst (λ program. Compiles program source (in_target_order (Time n maps)) (λ p x. x)) (sym b.is)
    (between_compile source n maps b.ends h b.hold terminates legal)

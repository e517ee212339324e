-- What every system has: an answer of its projection, and bounds of each column or a cause why there are none. So every program that has loops for a
-- schedule is scanned.
use Rattle.std.specs.Prelude.{ℕ, ◌^◌, ◌<◌, ◌≤◌, ℤ, List, length}
use Rattle.affc_rows.specs.Forms.{Affine, HaveColumns}
use Rattle.affc_system.specs.Systems.{Rows}
use Rattle.affc_eliminate.specs.project.Projections.{IsProjection}
use Rattle.affc_eliminate.specs.declared.project.projection.Projected.{Projected}
use Rattle.affc_ast.specs.declared.tree.Program.{Program}
use Rattle.affc_trace.specs.declared.schedule.Schedule.{Schedule}
use Rattle.affc_loops.specs.Laws.{HasLoops}
use Rattle.affc_loopends.specs.declared.bounds.Bounds.{Bounds}
use Rattle.affc_loopends.specs.Whys.{IsBounds}
use Rattle.affc_loopends.specs.declared.scanned.scanned.Scanned.{Scanned}
use Rattle.affc_loopends.specs.scanned.Scanned.{Scans}

-- Fourier and Motzkin's elimination ends with rows, or comes to a limit. (Of more rows than a `Vec` can hold all may be needed.)
abbrev pub SystemsProject : Type 0
SystemsProject = (columns : ℕ) (rows : List Affine) (keep : ℕ) → HaveColumns columns rows → keep ≤ columns → length rows ≤ 2 ^ 62 → (p : Projected) × IsProjection columns rows keep p

-- Each column has its ends, or a cause why there are none.
abbrev pub ColumnsHaveBounds : Type 0
ColumnsHaveBounds = (system : Rows) (column : ℕ) (ranges : List (ℤ × ℤ)) → HaveColumns system.columns system.rows → column < system.columns
    → (b : Bounds) × IsBounds system column ranges b

-- So what a schedule's program runs between always is there.
abbrev pub ProgramsScan : Type 0
ProgramsScan = (program : Program) (schedule : Schedule) → HasLoops program schedule → (s : Scanned) × Scans program schedule s

-- Which programs are scanned, and by which nest.
use Rattle.std.specs.Prelude.{◌≡◌}
use Rattle.affc_ast.specs.declared.tree.Program.{Program}
use Rattle.affc_ast.specs.Trace.{Assignment, assignments}
use Rattle.affc_trace.specs.declared.schedule.Schedule.{Schedule}
use Rattle.affc_trace.specs.Law.{IsIn}
use Rattle.affc_nest.specs.declared.nest.Nest.{Nest}
use Rattle.affc_nest.specs.Nests.{nest_of}
use Rattle.affc_loops.specs.Laws.{HasLoops}
use Rattle.affc_loopends.specs.scanned.Laws.{HaveSameTimes}
use Rattle.affc_scan.specs.InSight.{IsInSight}

-- The program has the loops and conditions of a source, maybe with other assignments, and this is the source's nest: the source
-- is plain, no loop of it passes 2^31, and the schedule is one of it, within its limits. The program has its context too, and its
-- assignments hold only names in sight.
pub record IsNestFor (program : Program) (nest : Nest) (schedule : Schedule) : Type 0 where
  pub source : Program
  pub has_loops : HasLoops source schedule
  pub same_times : HaveSameTimes source program
  pub its_nest : nest ≡ nest_of source
  pub in_sight : (a : Assignment) → IsIn a (assignments program) → IsInSight a

-- A source's own nest is one for it.
abbrev pub OwnNest : Type 0
OwnNest = (source : Program) (nest : Nest) (schedule : Schedule) → HasLoops source schedule → nest ≡ nest_of source → IsNestFor source nest schedule

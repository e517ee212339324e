-- What is printed of a schedule's loops reads as them.
use Rattle.std.specs.Prelude.{ℕ, List}
use Rattle.affc_ast.specs.declared.tree.Program.{Program}
use Rattle.affc_grammar.specs.Reads.{Reads, WellNamed}
use Rattle.affc_trace.specs.declared.schedule.Schedule.TheVariants.{Time}
use Rattle.affc_trace.specs.declared.schedule.TimeMap.{TimeMap}
use Rattle.affc_trace.specs.Target.{numbers_in}
use Rattle.affc_plain.specs.Laws.{IsBare}
use Rattle.affc_loops.specs.Between.{program_between}
use Rattle.affc_loops.specs.Ends.{Sides, ends_of}
use Rattle.affc_loops.specs.Laws.{HasLoops, HaveSameLoops}
use Rattle.affc_loops.specs.Loops.{scheduled}
use Rattle.affc_loopprint.specs.Rows.{ArePrintableOfEach}
use Rattle.affc_loopprint.specs.Spare.{IsSpare}

-- A bare program that a text reads as has room for loops.
abbrev pub ReadsSpare : Type 0
ReadsSpare = (text : List ℕ) (program : Program) → Reads text program → IsBare program → IsSpare program

-- A spare program is well named.
abbrev pub SpareWellNamed : Type 0
SpareWellNamed = (program : Program) → IsSpare program → WellNamed program

-- So are its loops between the ends of few and small rows, where the source of its loops is plain and the schedule is the source's.
abbrev pub BetweenWellNamed : Type 0
BetweenWellNamed = (source other : Program) (length_of_time : ℕ) (maps : List TimeMap) (rows : List (List Sides))
    → HasLoops source (Time length_of_time maps) → HaveSameLoops source other → IsSpare other
    → ArePrintableOfEach (numbers_in other.params) length_of_time (scheduled other maps) rows → WellNamed (program_between other maps (ends_of other maps rows))

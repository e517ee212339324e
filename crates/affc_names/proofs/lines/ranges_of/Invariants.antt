use Rattle.std.proofs.Common.{take}
use Rattle.affc_names.specs.Ranges.{lines_of, GiveSameRanges}
use Rattle.affc_names.proofs.LineLaws.{seen_lines}
use Rattle.affc_names.proofs.lines.ranges_of.Given as goal

abbrev pub invariant-loop-line : goal.invariant-loop-line
invariant-loop-line l = GiveSameRanges (lines_of l.ranges.entries) (seen_lines (take l.line-index l.lines))

use Rattle.std.proofs.Common.{◌≡◌, map, drop, fold, None}
use Rattle.affc_syntax.specs.draft.Drafts.{pragma}
use Rattle.affc_limits.specs.Lines.{with_range}
use Rattle.affc_limits.proofs.lines.ranges_past.Given as goal

abbrev pub invariant-loop-item : goal.invariant-loop-item
invariant-loop-item l = fold with_range l.found (map pragma (drop l.item-index l.items)) ≡ fold with_range None (map pragma l.items)

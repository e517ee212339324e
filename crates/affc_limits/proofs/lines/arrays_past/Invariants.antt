use Rattle.std.proofs.Common.{◌≡◌, map, drop, fold, None}
use Rattle.affc_syntax.specs.draft.Drafts.{param}
use Rattle.affc_limits.specs.Lines.{with_array}
use Rattle.affc_limits.proofs.lines.arrays_past.Given as goal

abbrev pub invariant-loop-item : goal.invariant-loop-item
invariant-loop-item l = fold with_array l.found (map param (drop l.item-index l.items)) ≡ fold with_array None (map param l.items)

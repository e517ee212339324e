use Rattle.std.proofs.Common.{◌≡◌, map, drop, fold}
use Rattle.affc_syntax.specs.draft.Drafts.{param}
use Rattle.affc_limits.specs.Rests.{rest_of}
use Rattle.affc_limits.specs.Lines.{with_param}
use Rattle.affc_limits.proofs.lines.parameters_past.Given as goal

abbrev pub invariant-loop-item : goal.invariant-loop-item
invariant-loop-item l = fold with_param l.rest (map param (drop l.item-index l.items)) ≡ fold with_param (rest_of 4) (map param l.items)

use Rattle.std.proofs.Common.{◌≡◌, map, drop, fold}
use Rattle.affc_syntax.specs.draft.Drafts.{pragma}
use Rattle.affc_limits.specs.Rests.{rest_of}
use Rattle.affc_limits.specs.Lines.{with_context}
use Rattle.affc_limits.proofs.lines.contexts_past.Given as goal

abbrev pub invariant-loop-item : goal.invariant-loop-item
invariant-loop-item l = fold with_context l.rest (map pragma (drop l.item-index l.items)) ≡ fold with_context (rest_of 17) (map pragma l.items)

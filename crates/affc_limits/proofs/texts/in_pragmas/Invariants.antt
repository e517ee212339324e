use Rattle.std.proofs.Common.{◌≡◌, map, drop, fold}
use Rattle.affc_grammar.specs.Limits.{pragma_texts}
use Rattle.affc_syntax.specs.draft.Drafts.{pragma}
use Rattle.affc_limits.specs.Texts.{step}
use Rattle.affc_limits.proofs.texts.in_pragmas.Given as goal

abbrev pub invariant-loop-item : goal.invariant-loop-item
invariant-loop-item l = fold (step l.rule pragma_texts) l.found (map pragma (drop l.item-index l.items)) ≡ fold (step l.rule pragma_texts) l.fn.before (map pragma l.items)

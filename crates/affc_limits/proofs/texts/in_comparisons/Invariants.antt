use Rattle.std.proofs.Common.{◌≡◌, map, drop, fold}
use Rattle.affc_grammar.specs.Limits.{sides}
use Rattle.affc_syntax.specs.draft.Drafts.{compare}
use Rattle.affc_limits.specs.Texts.{step}
use Rattle.affc_limits.proofs.texts.in_comparisons.Given as goal

abbrev pub invariant-loop-item : goal.invariant-loop-item
invariant-loop-item l = fold (step l.rule sides) l.found (map compare (drop l.item-index l.items)) ≡ fold (step l.rule sides) l.fn.before (map compare l.items)

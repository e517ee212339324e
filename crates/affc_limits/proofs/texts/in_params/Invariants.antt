use Rattle.std.proofs.Common.{◌≡◌, map, drop, fold}
use Rattle.affc_grammar.specs.Limits.{param_texts}
use Rattle.affc_syntax.specs.draft.Drafts.{param}
use Rattle.affc_limits.specs.Texts.{step}
use Rattle.affc_limits.proofs.texts.in_params.Given as goal

abbrev pub invariant-loop-item : goal.invariant-loop-item
invariant-loop-item l = fold (step l.rule param_texts) l.found (map param (drop l.item-index l.items)) ≡ fold (step l.rule param_texts) l.fn.before (map param l.items)

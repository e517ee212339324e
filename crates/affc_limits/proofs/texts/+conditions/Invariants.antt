use Rattle.std.proofs.Common.{◌≡◌, map, drop, fold}
use Rattle.affc_grammar.specs.Limits.{cond_texts}
use Rattle.affc_syntax.specs.draft.Drafts.{cond}
use Rattle.affc_limits.specs.Texts.{step}
use Rattle.affc_limits.proofs.texts.+conditions.Given as goal

abbrev pub invariant-in_conds-loop-item : goal.invariant-in_conds-loop-item
invariant-in_conds-loop-item l = fold (step l.rule cond_texts) l.found (map cond (drop l.item-index l.items)) ≡ fold (step l.rule cond_texts) l.fn.before (map cond l.items)

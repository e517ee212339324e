use Rattle.std.proofs.Common.{◌≡◌, [], ◌∷◌, map, drop, fold}
use Rattle.affc_grammar.specs.Draft as d
use Rattle.affc_syntax.specs.draft.Drafts.{ix}
use Rattle.affc_limits.specs.Texts.{step}
use Rattle.affc_limits.proofs.texts.in_each.Given as goal

abbrev pub invariant-loop-item : goal.invariant-loop-item
invariant-loop-item l = fold (step l.rule (λ (e : d.IxDraft). e ∷ [])) l.found (map ix (drop l.item-index l.items)) ≡ fold (step l.rule (λ (e : d.IxDraft). e ∷ [])) l.fn.before (map ix l.items)

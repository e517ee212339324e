use Rattle.std.proofs.Common.{◌≡◌, [], ◌∷◌, map, drop, fold}
use Rattle.affc_grammar.specs.Draft as d
use Rattle.affc_syntax.specs.draft.Drafts.{local}
use Rattle.affc_limits.specs.Texts.{step}
use Rattle.affc_limits.proofs.texts.in_locals.Given as goal

abbrev pub invariant-loop-item : goal.invariant-loop-item
invariant-loop-item l = fold (step l.rule (λ (l : d.LocalDraft). l.value ∷ [])) l.found (map local (drop l.item-index l.items)) ≡ fold (step l.rule (λ (l : d.LocalDraft). l.value ∷ [])) l.fn.before (map local l.items)

use Rattle.std.proofs.Common.{◌≡◌, map, drop, fold}
use Rattle.affc_grammar.specs.Draft as d
use Rattle.affc_syntax.specs.draft.Drafts.{decl}
use Rattle.affc_limits.specs.Texts.{step}
use Rattle.affc_limits.proofs.texts.in_decls.Given as goal

abbrev pub invariant-loop-item : goal.invariant-loop-item
invariant-loop-item l = fold (step l.rule (λ (k : d.DeclDraft). k.extents)) l.found (map decl (drop l.item-index l.items)) ≡ fold (step l.rule (λ (k : d.DeclDraft). k.extents)) l.fn.before (map decl l.items)

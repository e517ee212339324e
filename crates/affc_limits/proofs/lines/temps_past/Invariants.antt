use Rattle.std.proofs.Common.{◌≡◌, map, drop, fold, None}
use Rattle.affc_syntax.specs.draft.Drafts.{decl}
use Rattle.affc_limits.specs.Lines.{with_decl}
use Rattle.affc_limits.proofs.lines.temps_past.Given as goal

abbrev pub invariant-loop-item : goal.invariant-loop-item
invariant-loop-item l = fold with_decl l.found (map decl (drop l.item-index l.items)) ≡ fold with_decl None (map decl l.items)

use Rattle.std.proofs.Common.{map, None, ◌∙◌}
use Rattle.affc_syntax.specs.draft.Drafts.{decl}
use Rattle.affc_limits.specs.Lines.{with_decl}
use Rattle.affc_limits.proofs.LineLaws.{passed_all, decls_are}
use Rattle.affc_limits.proofs.lines.temps_past.Goals as goal

pub returns : goal.returns
returns c = passed_all with_decl decl None c.loop-item.found c.args.items.now c.loop-item.item-index c.loop-item-test.false c.loop-item.invariant ∙ decls_are None (map decl c.args.items.now)

use Rattle.std.proofs.Common.{map, None, ◌∙◌}
use Rattle.affc_grammar.specs.Limits.{param_decls}
use Rattle.affc_syntax.specs.draft.Drafts.{param}
use Rattle.affc_limits.specs.Lines.{with_array}
use Rattle.affc_limits.proofs.LineLaws.{passed_all, arrays_are, decls_are}
use Rattle.affc_limits.proofs.lines.arrays_past.Goals as goal

pub returns : goal.returns
returns c = passed_all with_array param None c.loop-item.found c.args.items.now c.loop-item.item-index c.loop-item-test.false c.loop-item.invariant ∙ arrays_are None (map param c.args.items.now) ∙ decls_are None (param_decls (map param c.args.items.now))

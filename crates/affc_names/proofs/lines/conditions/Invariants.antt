use Rattle.std.proofs.Common.{◌≡◌, [], drop}
use Rattle.affc_grammar.specs.Names.{pragmas_tree}
use Rattle.affc_names.specs.Ranges.{texts}
use Rattle.affc_names.proofs.LineLaws.{behind, seen_lines}
use Rattle.affc_names.proofs.lines.conditions.Given as goal

abbrev pub invariant-loop-line : goal.invariant-loop-line
invariant-loop-line l = pragmas_tree l.scope [] (seen_lines l.lines) ≡ behind l.conditions (pragmas_tree l.scope (texts l.earlier.keys) (seen_lines (drop l.line-index l.lines)))

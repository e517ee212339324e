use Rattle.std.proofs.Common.{◌≡◌, ◌==◌, not, map, drop, length, flat_map}
use Rattle.affc_grammar.specs.Limits.{at_if}
use Rattle.affc_schedtext.specs.Draft.{LineDraft}
use Rattle.affc_schedtext.specs.Seen.{line_seen}
use Rattle.affc_plan.specs.Lines.{head}
use Rattle.affc_plan.proofs.breach.first_other_length.Given as goal

abbrev pub invariant-loop-line : goal.invariant-loop-line
invariant-loop-line l =
    head (flat_map (λ (x : LineDraft). at_if (not (length x.forms == l.components)) x.at) (map line_seen (drop l.line-index l.lines)))
    ≡ head (flat_map (λ (x : LineDraft). at_if (not (length x.forms == l.components)) x.at) (map line_seen l.lines))

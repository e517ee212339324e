use Rattle.std.proofs.Common.{◌≡◌, map, drop, flat_map}
use Rattle.affc_schedtext.specs.Rules.{large_sides, statement_sides}
use Rattle.affc_schedtext.specs.Seen.{line_seen}
use Rattle.affc_plan.specs.Lines.{head}
use Rattle.affc_plan.proofs.lists.first_large_of_statements.Given as goal

abbrev pub invariant-loop-line : goal.invariant-loop-line
invariant-loop-line l =
    head (flat_map (λ x. large_sides (statement_sides l.outline l.components x)) (map line_seen (drop l.line-index l.lines))) ≡ head (flat_map (λ x. large_sides (statement_sides l.outline l.components x)) (map line_seen l.lines))

use Rattle.std.proofs.Common.{◌≡◌, map, drop, flat_map}
use Rattle.affc_schedtext.specs.Rules.{large_sides, fold_sides}
use Rattle.affc_schedtext.specs.Seen.{line_seen}
use Rattle.affc_plan.specs.Lines.{head}
use Rattle.affc_plan.proofs.lists.first_large_of_folds.Given as goal

abbrev pub invariant-loop-line : goal.invariant-loop-line
invariant-loop-line l =
    head (flat_map (λ x. large_sides (fold_sides l.outline x)) (map line_seen (drop l.line-index l.folds))) ≡ head (flat_map (λ x. large_sides (fold_sides l.outline x)) (map line_seen l.folds))

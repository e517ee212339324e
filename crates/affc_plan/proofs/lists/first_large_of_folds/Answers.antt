use Rattle.std.proofs.Common.{◌≡◌, ◌+◌, List, map, drop, flat_map, Some, None, refl, sym, ap, ◌∙◌}
use Rattle.affc_schedtext.specs.declared.draft.LineDraft.{LineDraft}
use Rattle.affc_schedtext.specs.Rules.{large_sides, fold_sides}
use Rattle.affc_schedtext.specs.Seen.{line_seen}
use Rattle.affc_plan.specs.Lines.{head}
use Rattle.affc_plan.proofs.Heads.{head_left, head_right, turn_here, turn_on}
use Rattle.affc_plan.proofs.lists.first_large_of_folds.Goals as goal

pub returns-in-Some : goal.returns-in-Some
returns-in-Some c =
    let o = c.args.outline.now in
    let ls = c.args.folds.now in
    let i = c.loop-line.line-index in
    let l = c.line-item.result in
    let here : Some c.in-Some.at ≡ head (large_sides (fold_sides o (line_seen l))) = sym c.in-Some.is ∙ c.in_ok-at.ensures ∙ ap (λ s. head (large_sides s)) c.fold_sides-sides.ensures.sides in
    turn_here (λ (xs : List LineDraft). head (flat_map (λ x. large_sides (fold_sides o x)) (map line_seen xs))) ls (head (flat_map (λ x. large_sides (fold_sides o x)) (map line_seen ls))) i l (Some c.in-Some.at) c.loop-line-test.true c.line-item.is c.loop-line.invariant
    (head_left (large_sides (fold_sides o (line_seen l))) (flat_map (λ x. large_sides (fold_sides o x)) (map line_seen (drop (i + 1) ls))) c.in-Some.at here)

pub loop-line-preserved : goal.loop-line-preserved
loop-line-preserved c =
    let o = c.args.outline.now in
    let ls = c.args.folds.now in
    let i = c.loop-line.line-index in
    let l = c.line-item.result in
    let here : None ≡ head (large_sides (fold_sides o (line_seen l))) = sym c.in_default.is ∙ c.in_ok-at.ensures ∙ ap (λ s. head (large_sides s)) c.fold_sides-sides.ensures.sides in
    turn_on (λ (xs : List LineDraft). head (flat_map (λ x. large_sides (fold_sides o x)) (map line_seen xs))) ls (head (flat_map (λ x. large_sides (fold_sides o x)) (map line_seen ls))) i l c.loop-line-test.true c.line-item.is c.loop-line.invariant
    (sym (head_right (large_sides (fold_sides o (line_seen l))) (flat_map (λ x. large_sides (fold_sides o x)) (map line_seen (drop (i + 1) ls))) _ here refl))

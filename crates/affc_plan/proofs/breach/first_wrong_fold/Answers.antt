use Rattle.std.proofs.Common.{◌≡◌, true, take, Some, sym, ap, ◌∙◌, arith}
use Rattle.std.proofs.lemmas.Grind.{common_steps}
use Rattle.affc_schedtext.specs.declared.draft.LineDraft as code
use Rattle.affc_plan.specs.Lines.{head, is_wrong_fold}
use Rattle.affc_plan.proofs.LineLaws.{wrong_here, wrong_end, same_entry, folds_wrong}
use Rattle.affc_plan.proofs.breach.first_wrong_fold.Goals as goal

pub returns-then-is_wrong_fold : goal.returns-then-is_wrong_fold
returns-then-is_wrong_fold c =
    let o = c.args.outline.now in
    let ls = c.args.folds.now in
    let i = c.loop-i.i in
    let l = c.index-folds-i.result in
    let wrong : is_wrong_fold o (take i ls) l ≡ true = grind (arith, common_steps) in
    ap (λ (x : code.LineDraft). Some x.word.at) (same_entry ls i c.index-folds-i-then-is_wrong_fold.result l c.loop-i-test.true ∙ sym c.index-folds-i.is)
    ∙ wrong_here (is_wrong_fold o) ls i l c.loop-i-test.true c.index-folds-i.is wrong c.loop-i.invariant
    ∙ ap head (folds_wrong o ls)

pub returns : goal.returns
returns c = wrong_end (is_wrong_fold c.args.outline.now) c.args.folds.now c.loop-i.i (omega arith) c.loop-i.invariant ∙ ap head (folds_wrong c.args.outline.now c.args.folds.now)

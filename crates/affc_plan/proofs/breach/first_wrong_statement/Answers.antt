use Rattle.std.proofs.Common.{◌≡◌, true, take, Some, sym, ap, ◌∙◌, arith}
use Rattle.std.proofs.lemmas.Grind.{common_steps}
use Rattle.affc_schedtext.specs.declared.draft.LineDraft as code
use Rattle.affc_plan.specs.Lines.{head, is_wrong_statement}
use Rattle.affc_plan.proofs.LineLaws.{wrong_here, wrong_end, same_entry, statements_wrong}
use Rattle.affc_plan.proofs.breach.first_wrong_statement.Goals as goal

pub returns-then-is_wrong_statement : goal.returns-then-is_wrong_statement
returns-then-is_wrong_statement c =
    let o = c.args.outline.now in
    let ls = c.args.lines.now in
    let i = c.loop-i.i in
    let l = c.index-lines-i.result in
    let wrong : is_wrong_statement o (take i ls) l ≡ true = grind (arith, common_steps) in
    ap (λ (x : code.LineDraft). Some x.word.at) (same_entry ls i c.index-lines-i-then-is_wrong_statement.result l c.loop-i-test.true ∙ sym c.index-lines-i.is)
    ∙ wrong_here (is_wrong_statement o) ls i l c.loop-i-test.true c.index-lines-i.is wrong c.loop-i.invariant
    ∙ ap head (statements_wrong o ls)

pub returns : goal.returns
returns c = wrong_end (is_wrong_statement c.args.outline.now) c.args.lines.now c.loop-i.i (omega arith) c.loop-i.invariant ∙ ap head (statements_wrong c.args.outline.now c.args.lines.now)

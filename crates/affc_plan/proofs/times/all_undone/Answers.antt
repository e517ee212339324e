use Rattle.std.proofs.Common.{List, All, map, sym, subst, arith}
use Rattle.std.proofs.lemmas.List.{take_all}
use Rattle.affc_schedtext.specs.declared.draft.LineDraft.{LineDraft}
use Rattle.affc_schedtext.specs.Answers.{IsUndone, LosesIterator}
use Rattle.affc_schedtext.specs.Rules.{statement_sides}
use Rattle.affc_schedtext.specs.Seen.{line_seen}
use Rattle.affc_plan.specs.Maps.{LostIn}
use Rattle.affc_plan.proofs.TimeLaws.{right_time, undone_map, undone_on, loses_line}
use Rattle.affc_plan.proofs.times.all_undone.Goals as goal

pub returns-in-Err-Component-clause-fault : goal.returns-in-Err-Component-clause-fault
returns-in-Err-Component-clause-fault c =
    let o = c.args.outline.now in
    let n = c.args.components in
    let ls = c.args.lines.now in
    let l = c.line-item.result in
    subst (λ k. LosesIterator o n (map line_seen ls) c.number_of-statement.result k) (sym c.in-Err-Component.component-is)
    (loses_line o n ls c.loop-line.line-index l c.number_of-statement.result c.in-Err-Component.component c.loop-line-test.true c.line-item.is c.loop-line.invariant.undone c.number_of-statement.ensures
    (subst (LostIn (statement_sides o n (line_seen l))) c.in-Err-Component.field-0-is c.in-Err-Component.ensures.lost))

pub loop-line-preserved : goal.loop-line-preserved
loop-line-preserved c =
    let o = c.args.outline.now in
    let n = c.args.components in
    let ls = c.args.lines.now in
    let i = c.loop-line.line-index in
    let l = c.line-item.result in
    record {
      undone = undone_on o n ls i l c.loop-line-test.true c.line-item.is c.loop-line.invariant.undone (undone_map (statement_sides o n (line_seen l)) c.in-Ok.field-0 c.in-Ok.ensures.map);
      right = (right_time o n ls i l c.loop-line-test.true c.line-item.is c.loop-line.invariant.right).1;
    }

pub returns-clause-undone : goal.returns-clause-undone
returns-clause-undone c =
    subst (λ (xs : List LineDraft). All (λ x. IsUndone (statement_sides c.args.outline.now c.args.components x)) (map line_seen xs)) (take_all c.loop-line.line-index c.args.lines.now (omega arith)) c.loop-line.invariant.undone

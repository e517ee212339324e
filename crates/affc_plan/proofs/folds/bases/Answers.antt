use Rattle.std.proofs.Common.{◌+◌, map, take, sym, subst}
use Rattle.affc_schedtext.specs.Answers.{AreBasesOfLines, LosesSubscript}
use Rattle.affc_schedtext.specs.Rules.{fold_sides}
use Rattle.affc_schedtext.specs.Seen.{line_seen}
use Rattle.affc_plan.specs.Maps.{BrokenIn}
use Rattle.affc_plan.proofs.FoldLaws.{right_here, bases_on, loses}
use Rattle.affc_plan.proofs.folds.bases.Goals as goal

pub returns-in-Err-Component-clause-fault : goal.returns-in-Err-Component-clause-fault
returns-in-Err-Component-clause-fault c =
    let o = c.args.outline.now in
    let ls = c.args.folds.now in
    let l = c.line-item.result in
    subst (λ n. LosesSubscript o (map line_seen ls) c.array_id-array.result.0 n) (sym c.in-Err-Component.component-is)
    (loses o ls c.loop-line.line-index l c.loop-line.bases c.array_id-array.result c.in-Err-Component.component c.loop-line-test.true c.line-item.is c.loop-line.invariant.made c.array_id-array.ensures
    (subst (BrokenIn (fold_sides o (line_seen l))) c.in-Err-Component.field-0-is c.in-Err-Component.ensures.broken))

pub loop-line-preserved : goal.loop-line-preserved
loop-line-preserved c =
    let o = c.args.outline.now in
    let ls = c.args.folds.now in
    let i = c.loop-line.line-index in
    let l = c.line-item.result in
    record {
      made = subst (λ fs. AreBasesOfLines o (map line_seen (take (i + 1) ls)) fs) (sym c.in_ok-push-in-Ok.ensures.ok)
          (bases_on o ls i l c.loop-line.bases (c.array_id-array.result, c.in-Ok.basis) c.loop-line-test.true c.line-item.is c.loop-line.invariant.made c.array_id-array.ensures c.in-Ok.ensures.basis);
      right = (right_here o ls i l c.loop-line-test.true c.line-item.is c.loop-line.invariant.right).1;
    }

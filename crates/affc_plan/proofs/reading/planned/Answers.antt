use Rattle.std.proofs.Common.{map, sym, subst}
use Rattle.std.proofs.lemmas.Result.{err_from_is_err_and}
use Rattle.affc_schedtext.specs.Seen.{line_seen, draft_seen}
use Rattle.affc_plan.specs.Folds.{AreRightFolds, FoldsFault}
use Rattle.affc_plan.proofs.StageLaws.{right_folds, basis_fault}
use Rattle.affc_plan.proofs.reading.planned.Goals as goal

pub bases-requires-clause-right : goal.bases-requires-clause-right
bases-requires-clause-right c =
    let o = c.args.outline.now in
    subst (AreRightFolds o) (sym c.as_slice.ensures) (right_folds o c.args.draft.now.folds c.requires.folds)

pub returns-in_err-folds-clause-fault : goal.returns-in_err-folds-clause-fault
returns-in_err-folds-clause-fault c =
    let o = c.args.outline.now in
    let fault = c.in_err-folds.field-0.0 in
    let p = err_from_is_err_and c.from_residual-in_err-folds.result c.from_residual-in_err-folds.ensures.1 in
    rw (p.1, p.2) (basis_fault o (draft_seen c.args.draft.now) c.in_ok-schedule.schedule fault c.in_ok-schedule.ensures.schedule
    (subst (λ ls. FoldsFault o (map line_seen ls) fault) c.as_slice.ensures c.in_err-folds.ensures.fault))

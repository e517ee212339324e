use Rattle.std.proofs.lemmas.Result.{IfOk-weaker}
use Rattle.affc_dataflow.proofs.SplitLemmas.{both_parts}
use Rattle.affc_dataflow.proofs.tested.+are_empty.Goals as goal

pub returns-else-not-branch-clause-none : goal.returns-else-not-branch-clause-none
returns-else-not-branch-clause-none t c =
    IfOk-weaker c.are_empty-in_default.result _ _
    (λ empty none h. both_parts c.args.questions.now c.split_at.result.0.now c.split_at.result.1.now c.split_at.ensures.by_index.0 (c.in_ok-are_empty-in_default.ensures.none c.if-not-branch.false) (none h))
    c.are_empty-in_default.ensures.none

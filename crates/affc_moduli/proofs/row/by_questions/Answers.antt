use Rattle.std.proofs.lemmas.Result.{IfOk-weaker}
use Rattle.affc_moduli.proofs.Done.{kept_of}
use Rattle.affc_moduli.proofs.row.by_questions.Goals as goal

pub returns-in-Farthest-clause-kept : goal.returns-in-Farthest-clause-kept
returns-in-Farthest-clause-kept c =
    IfOk-weaker c.marked.result _ _ (λ m done. kept_of c.args.asked.now.given.context.now c.args.asked.now.given.ranges.now c.args.asked.now.given.pairs.now c.args.asked.now.given.rows.now c.args.asked.now.line.k c.args.asked.now.line.row.now m done)
    c.marked.ensures.done

pub returns-in-Farthest-clause-bound : goal.returns-in-Farthest-clause-bound
returns-in-Farthest-clause-bound c = IfOk-weaker c.marked.result _ _ (λ m done bare. absurd (done.marked bare)) c.marked.ensures.done

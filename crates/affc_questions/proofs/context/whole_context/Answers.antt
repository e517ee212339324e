use Rattle.affc_questions.proofs.DistanceLemmas.{fit_at}
use Rattle.affc_questions.proofs.context.whole_context.Goals as goal

pub returns-clause-rows : goal.returns-clause-rows
returns-clause-rows c = fit_at c.args.nest.now.context.columns c.columns.result c.in_ok-rows.rows c.new.result c.columns.ensures.value c.new.ensures c.in_ok-rows.ensures.fit

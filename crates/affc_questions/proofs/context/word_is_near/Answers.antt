use Rattle.affc_nest.proofs.WideLemmas.{within_64}
use Rattle.affc_questions.proofs.context.word_is_near.Goals as goal

pub returns : goal.returns
returns c = within_64 c.args.x c.ranges.x

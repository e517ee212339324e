use Rattle.affc_domain.proofs.Lists.{first_and_rest}
use Rattle.affc_legal.specs.Answered.{question_on}
use Rattle.affc_legal.proofs.AnsweredLemmas.{answered_more}
use Rattle.affc_legal.proofs.settling.+settle_systems.Goals as goal

pub returns-in_ok-others-in-len1-up-clause-answered : goal.returns-in_ok-others-in-len1-up-clause-answered
returns-in_ok-others-in-len1-up-clause-answered t c =
    answered_more c.args.nest.now (question_on c.args.pair.now.from.entry.now c.args.pair.now.to.entry.now c.args.ranges.now) c.args.systems.now _ c.system-item.result
    (first_and_rest c.args.systems.now c.system-item.result c.in-len1-up.len_at_least c.system-item.is)
    c.args.out.now.items c.settle_one.new.out.items c.settle_systems.new.out.items c.in_ok-here-in-len1-up.here c.in_ok-others-in-len1-up.others c.nearer.result
    c.in_ok-here-in-len1-up.ensures.answered c.in_ok-others-in-len1-up.ensures.answered c.nearer.ensures.first

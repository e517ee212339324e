use Rattle.std.proofs.Common.{map, reverse}
use Rattle.affc_syntax.specs.draft.Drafts.{compare}
use Rattle.affc_syntax.proofs.Comparisons.{turn_back}
use Rattle.affc_syntax.proofs.condition.turned.Goals as goal

pub loop-c-preserved : goal.loop-c-preserved
loop-c-preserved c = turn_back c.loop-c.back c.pop.new.self c.in-Some.c c.loop-c.comparisons c.push.new.self (reverse (map compare c.args.back)) c.in-Some.ensures c.in_ok-push.ensures.ok c.loop-c.invariant

use Rattle.std.proofs.Common.{map, reverse, ap, ◌++◌, ◌∙◌}
use Rattle.affc_syntax.specs.draft.Drafts.{compare}
use Rattle.affc_syntax.proofs.Comparisons.{taken, all_taken, turn_taken}
use Rattle.affc_syntax.proofs.condition.last_first.Goals as goal

pub loop-x-init : goal.loop-x-init
loop-x-init c = ap (λ l. taken c.args.conds ++ reverse (map compare l)) c.new-back.ensures ∙ all_taken c.args.conds

pub loop-x-preserved : goal.loop-x-preserved
loop-x-preserved c = turn_taken c.loop-x.conds c.pop.new.self c.in-Some.x c.loop-x.back c.in_ok-back.back (taken c.args.conds) c.in-Some.ensures c.in_ok-back.ensures c.loop-x.invariant

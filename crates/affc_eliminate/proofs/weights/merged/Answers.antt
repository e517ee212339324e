use Rattle.std.proofs.Common.{sym, subst, drop}
use Rattle.affc_eliminate.proofs.Merges.{IsMerging, merging_more, merging_wide}
use Rattle.affc_eliminate.proofs.weights.merged.Goals as goal

pub returns-in_default-mixed_times-clause-wide : goal.returns-in_default-mixed_times-clause-wide
returns-in_default-mixed_times-clause-wide c = λ _.
    merging_wide c.args.s c.args.first.now c.args.t c.args.second.now c.loop-term.left c.loop-term.right c.loop-term.sums.items c.in-Some.term c.loop-term.invariant c.in-Some.ensures.some
    c.in_default-mixed_times.ensures.none

pub loop-term-preserved : goal.loop-term-preserved
loop-term-preserved c =
    let term = c.in-Some.term in
    subst (IsMerging c.args.s c.args.first.now c.args.t c.args.second.now (drop term.left c.args.first.now) (drop term.right c.args.second.now)) (sym c.in-Ok.ensures.items)
    (merging_more c.args.s c.args.first.now c.args.t c.args.second.now c.loop-term.left c.loop-term.right c.loop-term.sums.items term c.in-Some-mixed_times.sum c.requires.s_positive c.requires.t_positive
    c.loop-term.invariant c.in-Some.ensures.some c.in-Some-mixed_times.ensures.some c.in-Some-mixed_times.ensures.small)

use Rattle.std.proofs.Common.{subst, sym}
use Rattle.affc_leaf.specs.Points.{IsLeastPoint}
use Rattle.affc_split.specs.Answers.{IfPoint}
use Rattle.affc_legal.proofs.AnsweredLemmas.{one_found}
use Rattle.affc_legal.proofs.settling.settle_one.Goals as goal

pub returns-in_ok-found-in-Point-clause-answered : goal.returns-in_ok-found-in-Point-clause-answered
returns-in_ok-found-in-Point-clause-answered c =
    one_found c.args.nest.now c.args.pair.now.from.entry.now c.args.pair.now.to.entry.now c.args.ranges.now c.args.system.now c.requires.ranges c.requires.columns
    c.as_slice.result.now c.in_ok-found-in-Point.found
    (subst (IsLeastPoint c.args.system.now c.args.ranges.now) (sym c.as_slice.ensures.value)
    (subst (λ a. IfPoint a (IsLeastPoint c.args.system.now c.args.ranges.now)) c.in-Point.is c.in_ok-proof.ensures.point))
    c.in_ok-found-in-Point.ensures.key c.in_ok-found-in-Point.ensures.p c.in_ok-found-in-Point.ensures.a c.in_ok-found-in-Point.ensures.b

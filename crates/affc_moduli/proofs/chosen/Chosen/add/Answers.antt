use Rattle.std.proofs.Common.{subst, IsTrue}
use Rattle.affc_moduli.proofs.Left.{none_left}
use Rattle.affc_moduli.proofs.chosen.Chosen.add.Goals as goal

pub returns-then-not-branch-clause-none : goal.returns-then-not-branch-clause-none
returns-then-not-branch-clause-none c = λ no z inside point.
    none_left c.loop-row.self.region c.args.self.now.region.ranges c.args.self.now.region.system c.args.rows.now c.loop-row.row-index c.row-item.result
    c.loop-row.invariant.system c.loop-row.invariant.ranges c.loop-row-test.true c.row-item.is (c.in_ok-add_row.ensures.out (λ yes. no (subst IsTrue c.if-not-branch.true yes))) z inside point

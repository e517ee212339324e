use Rattle.std.proofs.Common.{◌≡◌, length, subst, arith}
use Rattle.affc_eliminate.specs.Works.{IsCrossing}
use Rattle.affc_eliminate.proofs.elimination.cross_row.Goals as goal

pub loop-j-init : goal.loop-j-init
loop-j-init g c = c.requires.state

pub cross_pair-requires-clause-ready : goal.cross_pair-requires-clause-ready
cross_pair-requires-clause-ready g c = c.requires.ready

pub cross_pair-requires-clause-i_in : goal.cross_pair-requires-clause-i_in
cross_pair-requires-clause-i_in g c = c.requires.i_in

pub cross_pair-requires-clause-positive : goal.cross_pair-requires-clause-positive
cross_pair-requires-clause-positive g c = c.requires.positive

pub cross_pair-requires-clause-state : goal.cross_pair-requires-clause-state
cross_pair-requires-clause-state g c = c.loop-j.invariant

pub returns-in-Err-clause-stop : goal.returns-in-Err-clause-stop
returns-in-Err-clause-stop g c = c.in-Err.ensures.stop

pub loop-j-preserved : goal.loop-j-preserved
loop-j-preserved g c = c.in-Ok.ensures.ok

pub returns-clause-ok : goal.returns-clause-ok
returns-clause-ok g c =
    let e : c.loop-j.j ≡ length c.args.task.now.rows.now = omega arith in
    subst (λ n. IsCrossing (g.F.Test.answers c.args.screen.now.test) c.args.task.now.rows.now c.args.task.now.column c.args.task.now.free c.args.i n c.loop-j.work) e c.loop-j.invariant

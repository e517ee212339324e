use Rattle.std.proofs.Common.{◌≡◌, length, subst, arith}
use Rattle.affc_eliminate.specs.Works.{IsCrossing}
use Rattle.affc_eliminate.proofs.Crossings.{crossing_start}
use Rattle.affc_eliminate.proofs.elimination.cross.Goals as goal

pub loop-i-init : goal.loop-i-init
loop-i-init g c =
    crossing_start (g.F.Test.answers c.args.screen.now.test) c.args.task.now.rows.now c.args.task.now.column c.args.task.now.free (record { kept = c.new.result; made = c.new-2.result }) c.new.ensures.items c.new-2.ensures.items

pub cross_place-requires-clause-ready : goal.cross_place-requires-clause-ready
cross_place-requires-clause-ready g c = c.requires

pub cross_place-requires-clause-state : goal.cross_place-requires-clause-state
cross_place-requires-clause-state g c = c.loop-i.invariant

pub returns-in-Err-clause-stop : goal.returns-in-Err-clause-stop
returns-in-Err-clause-stop g c = c.in-Err.ensures.stop

pub loop-i-preserved : goal.loop-i-preserved
loop-i-preserved g c = c.in-Ok.ensures.ok

pub returns-clause-ok : goal.returns-clause-ok
returns-clause-ok g c =
    let e : c.loop-i.i ≡ length c.args.task.now.rows.now = omega arith in
    subst (λ n. IsCrossing (g.F.Test.answers c.args.screen.now.test) c.args.task.now.rows.now c.args.task.now.column c.args.task.now.free n 0 c.loop-i.work) e c.loop-i.invariant

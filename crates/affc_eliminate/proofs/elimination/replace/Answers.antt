use Rattle.std.proofs.Common.{◌≡◌, length, subst, arith}
use Rattle.affc_eliminate.specs.Works.{IsReplacing}
use Rattle.affc_eliminate.proofs.Replacings.{replacing_start}
use Rattle.affc_eliminate.proofs.elimination.replace.Goals as goal

pub loop-i-init : goal.loop-i-init
loop-i-init g c =
    replacing_start (g.F.Test.answers c.args.screen.now.test) c.args.task.now.rows.now c.args.task.now.column c.args.task.now.free c.args.two.positive c.args.two.negative
    (record { kept = c.new.result; made = c.new-2.result }) c.new.ensures.items c.new-2.ensures.items

pub replace_place-requires-clause-ready : goal.replace_place-requires-clause-ready
replace_place-requires-clause-ready g c = c.requires.ready

pub replace_place-requires-clause-two : goal.replace_place-requires-clause-two
replace_place-requires-clause-two g c = c.requires.two

pub replace_place-requires-clause-state : goal.replace_place-requires-clause-state
replace_place-requires-clause-state g c = c.loop-i.invariant

pub returns-in-Err-clause-stop : goal.returns-in-Err-clause-stop
returns-in-Err-clause-stop g c = c.in-Err.ensures.stop

pub loop-i-preserved : goal.loop-i-preserved
loop-i-preserved g c = c.in-Ok.ensures.ok

pub returns-clause-ok : goal.returns-clause-ok
returns-clause-ok g c =
    let e : c.loop-i.i ≡ length c.args.task.now.rows.now = omega arith in
    subst (λ n. IsReplacing (g.F.Test.answers c.args.screen.now.test) c.args.task.now.rows.now c.args.task.now.column c.args.task.now.free c.args.two.positive c.args.two.negative n c.loop-i.work) e c.loop-i.invariant

use Rattle.std.proofs.Common.{◌≡◌, ◌+◌, length, arith}
use Rattle.affc_eliminate.proofs.Works.{of_one_base}
use Rattle.affc_eliminate.proofs.Grown.{mixture_widths, grown, wide}
use Rattle.affc_eliminate.proofs.work.combine.Goals as goal

pub overflow_cast-number : goal.overflow_cast-number
overflow_cast-number g c = omega (arith, c.requires.few, c.args.work.made.ok, c.len.ensures)

pub overflow_add-number : goal.overflow_add-number
overflow_add-number g c = omega (arith, c.requires.few, c.args.work.made.ok, c.len.ensures, c.requires.ready.free_small)

pub mixture-requires-clause-base : goal.mixture-requires-clause-base
mixture-requires-clause-base g c =
    of_one_base c.args.task.now.rows.now c.args.task.now.column c.args.task.now.free c.args.first.now c.args.second.now c.requires.ready c.requires.first_in c.requires.second_in

pub returns-in-Err-Wide-clause-stop : goal.returns-in-Err-Wide-clause-stop
returns-in-Err-Wide-clause-stop g c =
    wide (g.F.Test.answers c.args.screen.now.test) c.args.task.now.rows.now c.args.task.now.column c.args.task.now.free c.args.first.now c.args.second.now c.args.work.kept.items c.args.work.made.items
    c.requires.work c.requires.first_in c.requires.second_in c.requires.positive c.requires.negative c.requires.other (c.in-Err-Wide.ensures.wide c.in-Err-Wide.field-0-is)

pub admit-requires : goal.admit-requires
admit-requires g c =
    mixture_widths (g.F.Test.answers c.args.screen.now.test) c.args.task.now.rows.now c.args.task.now.column c.args.task.now.free c.args.first.now c.args.second.now c.in-Ok.new c.args.work.kept.items
    c.args.work.made.items c.requires.ready c.requires.work c.requires.first_in c.in-Ok.ensures.ok

pub returns-in-Ok-push-clause-ok : goal.returns-in-Ok-push-clause-ok
returns-in-Ok-push-clause-ok g c =
    let number : c.in-Ok.new.number ≡ c.args.task.now.free + length c.args.work.made.items = omega (arith, c.in-Ok.ensures.number, c.args.work.made.ok, c.len.ensures) in
    grown (g.F.Test.answers c.args.screen.now.test) c.args.task.now.rows.now c.args.task.now.column c.args.task.now.free c.args.first.now c.args.second.now c.in-Ok.new c.args.work
    (record { kept = c.in-Ok-admit.kept; made = c.push.new.self }) c.requires.ready c.requires.work c.requires.first_in c.requires.second_in c.requires.positive c.requires.negative c.requires.other
    c.in-Ok.ensures.ok c.in-Ok.ensures.named number c.in-Ok-admit.ensures c.in-Ok-push.ensures.items

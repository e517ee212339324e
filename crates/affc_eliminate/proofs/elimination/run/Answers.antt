use Rattle.std.proofs.Common.{length}
use Rattle.affc_farkas.proofs.Lists.{on_value}
use Rattle.affc_eliminate.specs.Steps.{AreEliminated}
use Rattle.affc_eliminate.specs.Works.{IsCrossing, IsReplacing}
use Rattle.affc_eliminate.proofs.Grown.{row_widths}
use Rattle.affc_eliminate.proofs.Ends.{crossing_ends, replacing_ends}
use Rattle.affc_eliminate.proofs.elimination.run.Goals as goal

pub opposites-requires : goal.opposites-requires
opposites-requires g c = (c.requires.columns, c.requires.column_in, row_widths c.args.task.now.rows.now c.args.task.now.column c.args.task.now.free c.requires)

pub replace-requires-clause-ready : goal.replace-requires-clause-ready
replace-requires-clause-ready g c = c.requires

pub replace-requires-clause-two : goal.replace-requires-clause-two
replace-requires-clause-two g c = c.in-Some.ensures.some

pub cross-requires : goal.cross-requires
cross-requires g c = c.requires

pub returns-in-Some-clause-ok : goal.returns-in-Some-clause-ok
returns-in-Some-clause-ok g c =
    let rows = c.args.task.now.rows.now in
    let column = c.args.task.now.column in
    let free = c.args.task.now.free in
    let two = c.in-Some.two in
    on_value c.replace.result (IsReplacing (g.F.Test.answers c.args.screen.now.test) rows column free two.positive two.negative (length rows))
    (λ new. AreEliminated (g.F.Test.answers c.args.screen.now.test) rows column free new.kept.items new.made.items)
    (λ new h. replacing_ends (g.F.Test.answers c.args.screen.now.test) rows column free two.positive two.negative new c.requires c.in-Some.ensures.some h) c.replace.ensures.ok

pub returns-in-Some-clause-stop : goal.returns-in-Some-clause-stop
returns-in-Some-clause-stop g c = c.replace.ensures.stop

pub returns-in-None-clause-ok : goal.returns-in-None-clause-ok
returns-in-None-clause-ok g c =
    let rows = c.args.task.now.rows.now in
    let column = c.args.task.now.column in
    let free = c.args.task.now.free in
    on_value c.cross.result (IsCrossing (g.F.Test.answers c.args.screen.now.test) rows column free (length rows) 0)
    (λ new. AreEliminated (g.F.Test.answers c.args.screen.now.test) rows column free new.kept.items new.made.items)
    (λ new h. crossing_ends (g.F.Test.answers c.args.screen.now.test) rows column free new c.requires h c.in-None.ensures.none) c.cross.ensures.ok

pub returns-in-None-clause-stop : goal.returns-in-None-clause-stop
returns-in-None-clause-stop g c = c.cross.ensures.stop

use Rattle.std.proofs.Common.{get_or, ◌+◌, ◌<ℤ◌, ◌≤ℤ◌, pos, sym, subst, arith}
use Rattle.std.proofs.lemmas.Int.{ints}
use Rattle.affc_farkas.proofs.Lists.{on_value}
use Rattle.affc_eliminate.specs.Works.{IsGrown, IsCrossing}
use Rattle.affc_eliminate.proofs.Grown.{read_at, read_in, column_in_row}
use Rattle.affc_eliminate.proofs.Crossings.{pairs_fresh, pairs_few, crossing_pair, crossing_skip}
use Rattle.affc_eliminate.proofs.elimination.cross_pair.Goals as goal

pub entry-requires : goal.entry-requires
entry-requires g c =
    let rows = c.args.task.now.rows.now in
    column_in_row rows c.args.task.now.column c.args.task.now.free (get_or c.args.task.now.rows.now c.args.j c.index-task-j.result) c.requires.ready (read_in rows c.args.j c.index-task-j.result c.requires.j_in)

pub combine-requires-clause-ready : goal.combine-requires-clause-ready
combine-requires-clause-ready g c = c.requires.ready

pub combine-requires-clause-first_in : goal.combine-requires-clause-first_in
combine-requires-clause-first_in g c = read_in c.args.task.now.rows.now c.args.i c.index-task-i.result c.requires.i_in

pub combine-requires-clause-second_in : goal.combine-requires-clause-second_in
combine-requires-clause-second_in g c = read_in c.args.task.now.rows.now c.args.j c.index-task-j.result c.requires.j_in

pub combine-requires-clause-positive : goal.combine-requires-clause-positive
combine-requires-clause-positive g c = c.requires.positive (get_or c.args.task.now.rows.now c.args.i c.index-task-i.result) (read_at c.args.task.now.rows.now c.args.i c.index-task-i.result c.requires.i_in)

pub combine-requires-clause-negative : goal.combine-requires-clause-negative
combine-requires-clause-negative g c =
    let h : c.entry.result <ℤ pos 0 = omega (arith, ints) in
    subst (λ z. z <ℤ pos 0) c.entry.ensures h

pub combine-requires-clause-other : goal.combine-requires-clause-other
combine-requires-clause-other g c =
    let rows = c.args.task.now.rows.now in
    pairs_fresh rows c.args.task.now.column c.args.i c.args.j (get_or c.args.task.now.rows.now c.args.i c.index-task-i.result) (get_or c.args.task.now.rows.now c.args.j c.index-task-j.result) c.args.work.made.items c.requires.ready.numbered
    (read_at rows c.args.i c.index-task-i.result c.requires.i_in) (read_at rows c.args.j c.index-task-j.result c.requires.j_in) c.requires.state.pairs

pub combine-requires-clause-work : goal.combine-requires-clause-work
combine-requires-clause-work g c = c.requires.state.work

pub combine-requires-clause-few : goal.combine-requires-clause-few
combine-requires-clause-few g c =
    pairs_few c.args.task.now.rows.now c.args.task.now.column c.args.i c.args.j c.args.work.made.items c.requires.state.pairs c.requires.i_in c.requires.j_in c.requires.ready.few

pub returns-then-entry-lt0-clause-ok : goal.returns-then-entry-lt0-clause-ok
returns-then-entry-lt0-clause-ok g c =
    let rows = c.args.task.now.rows.now in
    let column = c.args.task.now.column in
    let free = c.args.task.now.free in
    let f = (get_or c.args.task.now.rows.now c.args.i c.index-task-i.result) in
    let s = (get_or c.args.task.now.rows.now c.args.j c.index-task-j.result) in
    on_value c.combine.result (IsGrown (g.F.Test.answers c.args.screen.now.test) rows column free f s c.args.work) (IsCrossing (g.F.Test.answers c.args.screen.now.test) rows column free c.args.i (c.args.j + 1))
    (λ new h. crossing_pair (g.F.Test.answers c.args.screen.now.test) rows column free c.args.i c.args.j f s c.args.work new (read_at rows c.args.i c.index-task-i.result c.requires.i_in)
    (read_at rows c.args.j c.index-task-j.result c.requires.j_in) c.requires.state h) c.combine.ensures.ok

pub returns-then-entry-lt0-clause-stop : goal.returns-then-entry-lt0-clause-stop
returns-then-entry-lt0-clause-stop g c = c.combine.ensures.stop

pub returns-else-entry-lt0-clause-ok : goal.returns-else-entry-lt0-clause-ok
returns-else-entry-lt0-clause-ok g c =
    let rows = c.args.task.now.rows.now in
    let h : pos 0 ≤ℤ c.entry.result = omega (arith, ints) in
    crossing_skip (g.F.Test.answers c.args.screen.now.test) rows c.args.task.now.column c.args.task.now.free c.args.i c.args.j (get_or c.args.task.now.rows.now c.args.j c.index-task-j.result) c.args.work
    (read_at rows c.args.j c.index-task-j.result c.requires.j_in) (λ n. let m = subst (λ z. z <ℤ pos 0) (sym c.entry.ensures) n in absurd (omega (arith, ints))) c.requires.state

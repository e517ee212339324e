use Rattle.std.proofs.Common.{get_or, ◌≡◌, ◌+◌, ◌<ℤ◌, pos, length, refl, sym, subst, arith}
use Rattle.std.proofs.lemmas.Int.{ints}
use Rattle.affc_farkas.specs.Multiples.{entry_of}
use Rattle.affc_farkas.proofs.Lists.{on_value, on_fault}
use Rattle.affc_eliminate.specs.Sieves.{AreAdmitted}
use Rattle.affc_eliminate.specs.Works.{IsStop, IsCrossing}
use Rattle.affc_eliminate.specs.declared.kept.Kept.{Kept}
use Rattle.affc_eliminate.specs.declared.work.Stop.TheVariants.{Memory}
use Rattle.affc_eliminate.proofs.Added.{same_at}
use Rattle.affc_eliminate.proofs.Grown.{read_at, read_in, column_in_row, flat_widths, both_value}
use Rattle.affc_eliminate.proofs.Crossings.{crossing_flat, crossing_row, crossing_not}
use Rattle.affc_eliminate.proofs.elimination.cross_place.Goals as goal

pub entry-coefficient-requires : goal.entry-coefficient-requires
entry-coefficient-requires g c =
    let rows = c.args.task.now.rows.now in
    column_in_row rows c.args.task.now.column c.args.task.now.free (get_or rows c.args.i c.index-task-i.result) c.requires.ready (read_in rows c.args.i c.index-task-i.result c.requires.i_in)

pub keep_flat-requires : goal.keep_flat-requires
keep_flat-requires g c =
    let rows = c.args.task.now.rows.now in
    flat_widths (g.F.Test.answers c.args.screen.now.test) rows c.args.task.now.column c.args.task.now.free (get_or rows c.args.i c.index-task-i.result) c.args.work.kept.items c.args.work.made.items c.requires.ready c.requires.state.work
    (read_in rows c.args.i c.index-task-i.result c.requires.i_in)

pub cross_row-requires-clause-ready : goal.cross_row-requires-clause-ready
cross_row-requires-clause-ready g c = c.requires.ready

pub cross_row-requires-clause-i_in : goal.cross_row-requires-clause-i_in
cross_row-requires-clause-i_in g c = c.requires.i_in

pub cross_row-requires-clause-positive : goal.cross_row-requires-clause-positive
cross_row-requires-clause-positive g c =
    let rows = c.args.task.now.rows.now in
    let row = get_or rows c.args.i c.index-task-i.result in
    let h : pos 0 <ℤ c.entry-coefficient.result = omega (arith, ints) in
    let up = subst (λ z. pos 0 <ℤ z) c.entry-coefficient.ensures h in
    λ k at. subst (λ (q : Kept). pos 0 <ℤ entry_of q.row c.args.task.now.column) (same_at rows c.args.i c.args.i row k (read_at rows c.args.i c.index-task-i.result c.requires.i_in) at refl) up

pub cross_row-requires-clause-state : goal.cross_row-requires-clause-state
cross_row-requires-clause-state g c = c.requires.state

pub returns-then-coefficient-eq0-clause-ok : goal.returns-then-coefficient-eq0-clause-ok
returns-then-coefficient-eq0-clause-ok g c =
    let rows = c.args.task.now.rows.now in
    let column = c.args.task.now.column in
    let free = c.args.task.now.free in
    let row = get_or rows c.args.i c.index-task-i.result in
    let h : c.entry-coefficient.result ≡ pos 0 = omega (arith, ints) in
    let flat = subst (λ z. z ≡ pos 0) c.entry-coefficient.ensures h in
    both_value c.keep_flat.result (λ new. AreAdmitted (g.F.Test.answers c.args.screen.now.test) c.args.work.kept.items row new.kept.items) (λ new. new.made.items ≡ c.args.work.made.items)
    (IsCrossing (g.F.Test.answers c.args.screen.now.test) rows column free (c.args.i + 1) 0)
    (λ new a m. crossing_flat (g.F.Test.answers c.args.screen.now.test) rows column free c.args.i row c.args.work new c.requires.ready (read_at rows c.args.i c.index-task-i.result c.requires.i_in) flat c.requires.state a m)
    c.keep_flat.ensures.admitted c.keep_flat.ensures.made

pub returns-then-coefficient-eq0-clause-stop : goal.returns-then-coefficient-eq0-clause-stop
returns-then-coefficient-eq0-clause-stop g c =
    on_fault c.keep_flat.result (λ s. s ≡ Memory) (IsStop c.args.task.now.rows.now c.args.task.now.column c.args.task.now.free)
    (λ s e. subst (IsStop c.args.task.now.rows.now c.args.task.now.column c.args.task.now.free) (sym e) tt) c.keep_flat.ensures.stop

pub returns-then-coefficient-gt0-clause-ok : goal.returns-then-coefficient-gt0-clause-ok
returns-then-coefficient-gt0-clause-ok g c =
    let rows = c.args.task.now.rows.now in
    let column = c.args.task.now.column in
    let free = c.args.task.now.free in
    let row = get_or rows c.args.i c.index-task-i.result in
    let h : pos 0 <ℤ c.entry-coefficient.result = omega (arith, ints) in
    let up = subst (λ z. pos 0 <ℤ z) c.entry-coefficient.ensures h in
    on_value c.cross_row.result (IsCrossing (g.F.Test.answers c.args.screen.now.test) rows column free c.args.i (length rows)) (IsCrossing (g.F.Test.answers c.args.screen.now.test) rows column free (c.args.i + 1) 0)
    (λ new s. crossing_row (g.F.Test.answers c.args.screen.now.test) rows column free c.args.i row new c.requires.ready.few (read_at rows c.args.i c.index-task-i.result c.requires.i_in) up s) c.cross_row.ensures.ok

pub returns-then-coefficient-gt0-clause-stop : goal.returns-then-coefficient-gt0-clause-stop
returns-then-coefficient-gt0-clause-stop g c = c.cross_row.ensures.stop

pub returns-else-coefficient-gt0-clause-ok : goal.returns-else-coefficient-gt0-clause-ok
returns-else-coefficient-gt0-clause-ok g c =
    let rows = c.args.task.now.rows.now in
    let row = get_or rows c.args.i c.index-task-i.result in
    let h : c.entry-coefficient.result <ℤ pos 0 = omega (arith, ints) in
    let down = subst (λ z. z <ℤ pos 0) c.entry-coefficient.ensures h in
    crossing_not (g.F.Test.answers c.args.screen.now.test) rows c.args.task.now.column c.args.task.now.free c.args.i row c.args.work (read_at rows c.args.i c.index-task-i.result c.requires.i_in) down c.requires.state

use Rattle.std.proofs.Common.{get_or, ◌≡◌, ◌≢◌, ◌+◌, ◌<ℤ◌, pos, refl, sym, subst, inl, inr, arith}
use Rattle.std.proofs.lemmas.Int.{ints}
use Rattle.std.proofs.lemmas.Bool.{false≢true}
use Rattle.affc_farkas.proofs.Lists.{on_value, on_fault}
use Rattle.affc_eliminate.specs.Sieves.{AreAdmitted}
use Rattle.affc_eliminate.specs.Works.{IsStop, IsGrown, IsReplacing}
use Rattle.affc_eliminate.specs.declared.work.Stop.TheVariants.{Memory}
use Rattle.affc_eliminate.proofs.Grown.{read_at, read_in, column_in_row, flat_widths, both_value, first_positive, second_negative}
use Rattle.affc_eliminate.proofs.Replacings.{positive_fresh, negative_fresh, replacing_flat, replacing_two, replacing_positive, replacing_negative}
use Rattle.affc_eliminate.proofs.elimination.replace_place.Goals as goal

pub entry-coefficient-requires : goal.entry-coefficient-requires
entry-coefficient-requires g c =
    let rows = c.args.task.now.rows.now in
    let column = c.args.task.now.column in
    let free = c.args.task.now.free in
    let p = c.args.two.positive in
    let n = c.args.two.negative in
    let row = get_or rows c.args.i c.index-task-i.result in
    let at = read_at rows c.args.i c.index-task-i.result c.requires.i_in in
    column_in_row rows column free row c.requires.ready (read_in rows c.args.i c.index-task-i.result c.requires.i_in)

pub keep_flat-requires : goal.keep_flat-requires
keep_flat-requires g c =
    let rows = c.args.task.now.rows.now in
    let column = c.args.task.now.column in
    let free = c.args.task.now.free in
    let p = c.args.two.positive in
    let n = c.args.two.negative in
    let row = get_or rows c.args.i c.index-task-i.result in
    let at = read_at rows c.args.i c.index-task-i.result c.requires.i_in in
    flat_widths (g.F.Test.answers c.args.screen.now.test) rows column free row c.args.work.kept.items c.args.work.made.items c.requires.ready c.requires.state.work (read_in rows c.args.i c.index-task-i.result c.requires.i_in)

pub bounds-task-two : goal.bounds-task-two
bounds-task-two g c =
    c.requires.two.second_at.0

pub combine-requires-clause-ready : goal.combine-requires-clause-ready
combine-requires-clause-ready g c =
    c.requires.ready

pub combine-requires-clause-first_in : goal.combine-requires-clause-first_in
combine-requires-clause-first_in g c =
    let rows = c.args.task.now.rows.now in
    let column = c.args.task.now.column in
    let free = c.args.task.now.free in
    let p = c.args.two.positive in
    let n = c.args.two.negative in
    let row = get_or rows c.args.i c.index-task-i.result in
    let at = read_at rows c.args.i c.index-task-i.result c.requires.i_in in
    read_in rows c.args.i c.index-task-i.result c.requires.i_in

pub combine-requires-clause-second_in : goal.combine-requires-clause-second_in
combine-requires-clause-second_in g c =
    let rows = c.args.task.now.rows.now in
    let column = c.args.task.now.column in
    let free = c.args.task.now.free in
    let p = c.args.two.positive in
    let n = c.args.two.negative in
    let row = get_or rows c.args.i c.index-task-i.result in
    let at = read_at rows c.args.i c.index-task-i.result c.requires.i_in in
    read_in rows n c.index-task-two.result c.requires.two.second_at.0

pub combine-requires-clause-positive : goal.combine-requires-clause-positive
combine-requires-clause-positive g c =
    let rows = c.args.task.now.rows.now in
    let column = c.args.task.now.column in
    let free = c.args.task.now.free in
    let p = c.args.two.positive in
    let n = c.args.two.negative in
    let row = get_or rows c.args.i c.index-task-i.result in
    let at = read_at rows c.args.i c.index-task-i.result c.requires.i_in in
    let h : pos 0 <ℤ c.entry-coefficient.result = omega (arith, ints) in
    let up = subst (λ z. pos 0 <ℤ z) c.entry-coefficient.ensures h in
    up

pub combine-requires-clause-negative : goal.combine-requires-clause-negative
combine-requires-clause-negative g c =
    let rows = c.args.task.now.rows.now in
    let column = c.args.task.now.column in
    let free = c.args.task.now.free in
    let p = c.args.two.positive in
    let n = c.args.two.negative in
    let row = get_or rows c.args.i c.index-task-i.result in
    let at = read_at rows c.args.i c.index-task-i.result c.requires.i_in in
    let second = get_or rows n c.index-task-two.result in
    let second_at = read_at rows n c.index-task-two.result c.requires.two.second_at.0 in
    second_negative rows column free p n second c.requires.ready c.requires.two second_at

pub combine-requires-clause-other : goal.combine-requires-clause-other
combine-requires-clause-other g c =
    let rows = c.args.task.now.rows.now in
    let column = c.args.task.now.column in
    let free = c.args.task.now.free in
    let p = c.args.two.positive in
    let n = c.args.two.negative in
    let row = get_or rows c.args.i c.index-task-i.result in
    let at = read_at rows c.args.i c.index-task-i.result c.requires.i_in in
    let second = get_or rows n c.index-task-two.result in
    let second_at = read_at rows n c.index-task-two.result c.requires.two.second_at.0 in
    let np : c.args.i ≢ p = λ e. false≢true (c.if-is_one.ensures.1 (inl e)) in
    let nn : c.args.i ≢ n = λ e. false≢true (c.if-is_one.ensures.1 (inr e)) in
    positive_fresh rows column p n c.args.i row second c.args.work.made.items c.requires.ready.numbered at np c.requires.state.pairs

pub combine-requires-clause-work : goal.combine-requires-clause-work
combine-requires-clause-work g c =
    c.requires.state.work

pub combine-requires-clause-few : goal.combine-requires-clause-few
combine-requires-clause-few g c =
    let a = c.requires.state.pairs.few in
    let b = c.requires.ready.few in
    let d = c.requires.i_in in
    omega (arith, a, b, d)

pub combine-requires-else-coefficient-gt0-clause-ready : goal.combine-requires-else-coefficient-gt0-clause-ready
combine-requires-else-coefficient-gt0-clause-ready g c =
    c.requires.ready

pub bounds-task-two-else-coefficient-gt0 : goal.bounds-task-two-else-coefficient-gt0
bounds-task-two-else-coefficient-gt0 g c =
    c.requires.two.first_at.0

pub combine-requires-else-coefficient-gt0-clause-first_in : goal.combine-requires-else-coefficient-gt0-clause-first_in
combine-requires-else-coefficient-gt0-clause-first_in g c =
    let rows = c.args.task.now.rows.now in
    let column = c.args.task.now.column in
    let free = c.args.task.now.free in
    let p = c.args.two.positive in
    let n = c.args.two.negative in
    let row = get_or rows c.args.i c.index-task-i.result in
    let at = read_at rows c.args.i c.index-task-i.result c.requires.i_in in
    read_in rows p c.index-task-two-else-coefficient-gt0.result c.requires.two.first_at.0

pub combine-requires-else-coefficient-gt0-clause-second_in : goal.combine-requires-else-coefficient-gt0-clause-second_in
combine-requires-else-coefficient-gt0-clause-second_in g c =
    let rows = c.args.task.now.rows.now in
    let column = c.args.task.now.column in
    let free = c.args.task.now.free in
    let p = c.args.two.positive in
    let n = c.args.two.negative in
    let row = get_or rows c.args.i c.index-task-i.result in
    let at = read_at rows c.args.i c.index-task-i.result c.requires.i_in in
    read_in rows c.args.i c.index-task-i.result c.requires.i_in

pub combine-requires-else-coefficient-gt0-clause-positive : goal.combine-requires-else-coefficient-gt0-clause-positive
combine-requires-else-coefficient-gt0-clause-positive g c =
    let rows = c.args.task.now.rows.now in
    let column = c.args.task.now.column in
    let free = c.args.task.now.free in
    let p = c.args.two.positive in
    let n = c.args.two.negative in
    let row = get_or rows c.args.i c.index-task-i.result in
    let at = read_at rows c.args.i c.index-task-i.result c.requires.i_in in
    let first = get_or rows p c.index-task-two-else-coefficient-gt0.result in
    let first_at = read_at rows p c.index-task-two-else-coefficient-gt0.result c.requires.two.first_at.0 in
    first_positive rows column p n first c.requires.two first_at

pub combine-requires-else-coefficient-gt0-clause-negative : goal.combine-requires-else-coefficient-gt0-clause-negative
combine-requires-else-coefficient-gt0-clause-negative g c =
    let rows = c.args.task.now.rows.now in
    let column = c.args.task.now.column in
    let free = c.args.task.now.free in
    let p = c.args.two.positive in
    let n = c.args.two.negative in
    let row = get_or rows c.args.i c.index-task-i.result in
    let at = read_at rows c.args.i c.index-task-i.result c.requires.i_in in
    let h : c.entry-coefficient.result <ℤ pos 0 = omega (arith, ints) in
    let down = subst (λ z. z <ℤ pos 0) c.entry-coefficient.ensures h in
    down

pub combine-requires-else-coefficient-gt0-clause-other : goal.combine-requires-else-coefficient-gt0-clause-other
combine-requires-else-coefficient-gt0-clause-other g c =
    let rows = c.args.task.now.rows.now in
    let column = c.args.task.now.column in
    let free = c.args.task.now.free in
    let p = c.args.two.positive in
    let n = c.args.two.negative in
    let row = get_or rows c.args.i c.index-task-i.result in
    let at = read_at rows c.args.i c.index-task-i.result c.requires.i_in in
    let first = get_or rows p c.index-task-two-else-coefficient-gt0.result in
    let first_at = read_at rows p c.index-task-two-else-coefficient-gt0.result c.requires.two.first_at.0 in
    let np : c.args.i ≢ p = λ e. false≢true (c.if-is_one.ensures.1 (inl e)) in
    let nn : c.args.i ≢ n = λ e. false≢true (c.if-is_one.ensures.1 (inr e)) in
    negative_fresh rows column p n c.args.i row first c.args.work.made.items c.requires.ready.numbered at nn c.requires.state.pairs

pub combine-requires-else-coefficient-gt0-clause-work : goal.combine-requires-else-coefficient-gt0-clause-work
combine-requires-else-coefficient-gt0-clause-work g c =
    c.requires.state.work

pub combine-requires-else-coefficient-gt0-clause-few : goal.combine-requires-else-coefficient-gt0-clause-few
combine-requires-else-coefficient-gt0-clause-few g c =
    let a = c.requires.state.pairs.few in
    let b = c.requires.ready.few in
    let d = c.requires.i_in in
    omega (arith, a, b, d)

pub returns-then-coefficient-eq0-clause-ok : goal.returns-then-coefficient-eq0-clause-ok
returns-then-coefficient-eq0-clause-ok g c =
    let rows = c.args.task.now.rows.now in
    let column = c.args.task.now.column in
    let free = c.args.task.now.free in
    let p = c.args.two.positive in
    let n = c.args.two.negative in
    let row = get_or rows c.args.i c.index-task-i.result in
    let at = read_at rows c.args.i c.index-task-i.result c.requires.i_in in
    let h : c.entry-coefficient.result ≡ pos 0 = omega (arith, ints) in
    let flat = subst (λ z. z ≡ pos 0) c.entry-coefficient.ensures h in
    both_value c.keep_flat.result (λ new. AreAdmitted (g.F.Test.answers c.args.screen.now.test) c.args.work.kept.items row new.kept.items) (λ new. new.made.items ≡ c.args.work.made.items) (IsReplacing (g.F.Test.answers c.args.screen.now.test) rows column free p n (c.args.i + 1))
    (λ new a m. replacing_flat (g.F.Test.answers c.args.screen.now.test) rows column free p n c.args.i row c.args.work new c.requires.ready at flat c.requires.state a m) c.keep_flat.ensures.admitted c.keep_flat.ensures.made

pub returns-then-coefficient-eq0-clause-stop : goal.returns-then-coefficient-eq0-clause-stop
returns-then-coefficient-eq0-clause-stop g c =
    let rows = c.args.task.now.rows.now in
    let column = c.args.task.now.column in
    let free = c.args.task.now.free in
    let p = c.args.two.positive in
    let n = c.args.two.negative in
    let row = get_or rows c.args.i c.index-task-i.result in
    let at = read_at rows c.args.i c.index-task-i.result c.requires.i_in in
    on_fault c.keep_flat.result (λ s. s ≡ Memory) (IsStop rows column free) (λ s e. subst (IsStop rows column free) (sym e) tt) c.keep_flat.ensures.stop

pub returns-then-is_one-clause-ok : goal.returns-then-is_one-clause-ok
returns-then-is_one-clause-ok g c =
    let rows = c.args.task.now.rows.now in
    let column = c.args.task.now.column in
    let free = c.args.task.now.free in
    let p = c.args.two.positive in
    let n = c.args.two.negative in
    let row = get_or rows c.args.i c.index-task-i.result in
    let at = read_at rows c.args.i c.index-task-i.result c.requires.i_in in
    replacing_two (g.F.Test.answers c.args.screen.now.test) rows column free p n c.args.i row c.args.work at
    (λ z. let m = subst (λ v. v ≡ pos 0) (sym c.entry-coefficient.ensures) z in absurd (omega (arith, ints))) (c.if-is_one.ensures.0 refl) c.requires.state

pub returns-then-coefficient-gt0-clause-ok : goal.returns-then-coefficient-gt0-clause-ok
returns-then-coefficient-gt0-clause-ok g c =
    let rows = c.args.task.now.rows.now in
    let column = c.args.task.now.column in
    let free = c.args.task.now.free in
    let p = c.args.two.positive in
    let n = c.args.two.negative in
    let row = get_or rows c.args.i c.index-task-i.result in
    let at = read_at rows c.args.i c.index-task-i.result c.requires.i_in in
    let h : pos 0 <ℤ c.entry-coefficient.result = omega (arith, ints) in
    let up = subst (λ z. pos 0 <ℤ z) c.entry-coefficient.ensures h in
    let second = get_or rows n c.index-task-two.result in
    let second_at = read_at rows n c.index-task-two.result c.requires.two.second_at.0 in
    let np : c.args.i ≢ p = λ e. false≢true (c.if-is_one.ensures.1 (inl e)) in
    let nn : c.args.i ≢ n = λ e. false≢true (c.if-is_one.ensures.1 (inr e)) in
    on_value c.combine.result (IsGrown (g.F.Test.answers c.args.screen.now.test) rows column free row second c.args.work) (IsReplacing (g.F.Test.answers c.args.screen.now.test) rows column free p n (c.args.i + 1))
    (λ new grown. replacing_positive (g.F.Test.answers c.args.screen.now.test) rows column free p n c.args.i row c.requires.two.first second c.args.work new at c.requires.two.first_at second_at np nn up c.requires.state grown) c.combine.ensures.ok

pub returns-then-coefficient-gt0-clause-stop : goal.returns-then-coefficient-gt0-clause-stop
returns-then-coefficient-gt0-clause-stop g c =
    c.combine.ensures.stop

pub returns-else-coefficient-gt0-clause-ok : goal.returns-else-coefficient-gt0-clause-ok
returns-else-coefficient-gt0-clause-ok g c =
    let rows = c.args.task.now.rows.now in
    let column = c.args.task.now.column in
    let free = c.args.task.now.free in
    let p = c.args.two.positive in
    let n = c.args.two.negative in
    let row = get_or rows c.args.i c.index-task-i.result in
    let at = read_at rows c.args.i c.index-task-i.result c.requires.i_in in
    let h : c.entry-coefficient.result <ℤ pos 0 = omega (arith, ints) in
    let down = subst (λ z. z <ℤ pos 0) c.entry-coefficient.ensures h in
    let first = get_or rows p c.index-task-two-else-coefficient-gt0.result in
    let first_at = read_at rows p c.index-task-two-else-coefficient-gt0.result c.requires.two.first_at.0 in
    let np : c.args.i ≢ p = λ e. false≢true (c.if-is_one.ensures.1 (inl e)) in
    let nn : c.args.i ≢ n = λ e. false≢true (c.if-is_one.ensures.1 (inr e)) in
    on_value c.combine-else-coefficient-gt0.result (IsGrown (g.F.Test.answers c.args.screen.now.test) rows column free first row c.args.work) (IsReplacing (g.F.Test.answers c.args.screen.now.test) rows column free p n (c.args.i + 1))
    (λ new grown. replacing_negative (g.F.Test.answers c.args.screen.now.test) rows column free p n c.args.i row first c.requires.two.second c.args.work new at first_at c.requires.two.second_at np nn down c.requires.state grown) c.combine-else-coefficient-gt0.ensures.ok

pub returns-else-coefficient-gt0-clause-stop : goal.returns-else-coefficient-gt0-clause-stop
returns-else-coefficient-gt0-clause-stop g c =
    c.combine-else-coefficient-gt0.ensures.stop

use Rattle.std.proofs.Common.{◌≡◌, ◌⊎◌, ℕ, refl, ◌+◌, ◌≤◌, ◌<◌, ◌++◌, ◌∷◌, [], length, ap, sym, subst, ◌∙◌, arith}
use Rattle.affc_farkas.specs.Eliminations.{IsElimination}
use Rattle.affc_eliminate.specs.Steps.{AreReady, IsStep}
use Rattle.affc_eliminate.specs.declared.kept.Step.TheVariants.{Rows, TooWide}
use Rattle.affc_eliminate.specs.project.Projections.{IsTooWide, AreFrom}
use Rattle.affc_eliminate.specs.project.States.{HasContradiction}
use Rattle.affc_eliminate.proofs.project.Wides.{too_wide, next_from}
use Rattle.affc_eliminate.proofs.project.Steps.{is_ready, cancelled, too_many}
use Rattle.affc_eliminate.proofs.project.work.cancel.Goals as goal

pub eliminate-requires : goal.eliminate-requires
eliminate-requires g c =
    let rows = c.args.system.now.rows in
    let same : length rows + length c.args.made.items ≡ length c.rows.result.now + c.len.result = omega (arith, ap length c.rows.ensures.rows, c.len.ensures, c.args.made.ok) in
    subst (AreReady c.args.live.now c.args.column) same (is_ready c.args.system.now.columns rows c.args.column c.args.made.items c.args.live.now c.requires.column_in c.requires.few c.requires.state)

pub returns-then-may_go_on-clause-ok : goal.returns-then-may_go_on-clause-ok
returns-then-may_go_on-clause-ok g c =
    let rows = c.args.system.now.rows in
    let made = c.args.made.items in
    let A = g.F.Test.answers c.args.screen.now.test in
    let free : ℕ = length c.rows.result.now + c.len.result in
    let same : free ≡ length rows + length made = omega (arith, ap length c.rows.ensures.rows, c.len.ensures, c.args.made.ok) in
    let all = c.in-Ok-joined.all.items in
    let few : (length all < 4096) ⊎ HasContradiction c.in-Rows.rows.items =
    subst (λ ks. (length all < 4096) ⊎ HasContradiction ks) c.as_slice-in-Rows.ensures.value
    (subst (λ ms. (length ms < 4096) ⊎ HasContradiction c.as_slice-in-Rows.result.now) c.as_slice-in-Rows-2.ensures.value (c.if-may_go_on.ensures.yes refl)) in
    cancelled A c.args.system.now.columns rows c.args.column free made c.in-Rows.more.items c.args.live.now (record { live = c.in-Rows.rows; made = c.in-Ok-joined.all }) c.requires.column_in same c.requires.state
    (subst (IsStep A c.args.live.now c.args.column free) c.in-Rows.is c.in-Ok.ensures) (c.in-Ok-joined.ensures ∙ ap (λ ms. made ++ ms) c.as_slice.ensures.value) few

pub returns-in-Rows-clause-stop : goal.returns-in-Rows-clause-stop
returns-in-Rows-clause-stop g c = λ keep le from.
    let rows = c.args.system.now.rows in
    let columns = c.args.system.now.columns in
    let made = c.args.made.items in
    let A = g.F.Test.answers c.args.screen.now.test in
    let free : ℕ = length c.rows.result.now + c.len.result in
    let all = c.in-Ok-joined.all.items in
    let many : 4096 ≤ length all = subst (λ ms. 4096 ≤ length ms) c.as_slice-in-Rows-2.ensures.value (c.if-may_go_on.ensures.no refl) in
    let step : IsStep A c.args.live.now c.args.column free (Rows c.in-Rows.rows c.in-Rows.more) = subst (IsStep A c.args.live.now c.args.column free) c.in-Rows.is c.in-Ok.ensures in
    subst (λ ms. IsElimination columns rows ms × (length ms ≡ 4096) × AreFrom keep ms) (sym c.truncate.ensures.items)
    (too_many columns rows c.args.column free made c.in-Rows.more.items all c.args.live.now c.requires.column_in c.requires.state step.add_each
    (c.in-Ok-joined.ensures ∙ ap (λ ms. made ++ ms) c.as_slice.ensures.value) many keep le from)

pub returns-in-Ok-joined-2-clause-stop : goal.returns-in-Ok-joined-2-clause-stop
returns-in-Ok-joined-2-clause-stop g c = λ keep le from.
    let rows = c.args.system.now.rows in
    let columns = c.args.system.now.columns in
    let made = c.args.made.items in
    let more = c.in-TooWide.more.items in
    let next = c.in-TooWide.next in
    let A = g.F.Test.answers c.args.screen.now.test in
    let free : ℕ = length c.rows.result.now + c.len.result in
    let step : IsStep A c.args.live.now c.args.column free (TooWide c.in-TooWide.more next) = subst (IsStep A c.args.live.now c.args.column free) c.in-TooWide.is c.in-Ok.ensures in
    subst (λ ms. IsTooWide columns rows ms next × AreFrom keep (ms ++ next ∷ [])) (sym (c.in-Ok-joined-2.ensures ∙ ap (λ ms. made ++ ms) c.as_slice-in-TooWide.ensures.value))
    (too_wide columns rows c.args.column free made more c.args.live.now next c.requires.column_in c.requires.state step, next_from keep c.args.column free made more c.args.live.now next le from step)

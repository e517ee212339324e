use Rattle.std.proofs.Common.{◌≡◌, ◌++◌, length, sym, ap, subst, ◌∙◌, arith}
use Rattle.std.specs.List.{All}
use Rattle.affc_system.specs.Systems.{Rows, IsRow}
use Rattle.affc_loopends.proofs.Given.{made_images, made_rows, made_times, domain_fit, times_fit}
use Rattle.affc_loopends.proofs.system.system_by.Goals as goal

pub add_images-requires-clause-images : goal.add_images-requires-clause-images
add_images-requires-clause-images c = made_images c.args.params c.args.domain.now c.args.times.now c.args.inverse.now c.requires _ (c.as_slice.ensures.value ∙ c.in_ok-images.ensures)

pub add_images-requires-clause-rows : goal.add_images-requires-clause-rows
add_images-requires-clause-rows c = made_rows c.args.params c.args.domain.now c.args.times.now c.args.inverse.now c.requires _ (c.as_slice.ensures.value ∙ c.in_ok-images.ensures)

pub add_components-requires-clause-images : goal.add_components-requires-clause-images
add_components-requires-clause-images c = made_images c.args.params c.args.domain.now c.args.times.now c.args.inverse.now c.requires _ (c.as_slice-2.ensures.value ∙ c.in_ok-images.ensures)

pub add_components-requires-clause-rows : goal.add_components-requires-clause-rows
add_components-requires-clause-rows c = made_times c.args.params c.args.domain.now c.args.times.now c.args.inverse.now c.requires _ (c.as_slice-2.ensures.value ∙ c.in_ok-images.ensures)

pub add_rows-requires-clause-fit : goal.add_rows-requires-clause-fit
add_rows-requires-clause-fit c =
    subst (λ (s : Rows). All (IsRow s.columns) c.as_slice-3.result.now) (sym c.new-system.ensures)
    (domain_fit c.args.params c.args.domain.now c.args.times.now c.args.inverse.now c.requires c.as_slice.result.now (c.as_slice.ensures.value ∙ c.in_ok-images.ensures) _ _ c.as_slice-3.result.now c.new-rows.ensures.items c.in_ok-add_images.ensures c.as_slice-3.ensures.value).0

pub add_rows-requires-2-clause-fit : goal.add_rows-requires-2-clause-fit
add_rows-requires-2-clause-fit c =
    subst (λ k. All (IsRow k) c.as_slice-4.result.now) (sym (ap (λ (s : Rows). s.columns) (c.in_ok-add_rows.ensures) ∙ ap (λ (s : Rows). s.columns) c.new-system.ensures))
    (times_fit c.args.params c.args.domain.now c.args.times.now c.args.inverse.now c.requires c.as_slice-2.result.now (c.as_slice-2.ensures.value ∙ c.in_ok-images.ensures) _ _ c.as_slice-4.result.now c.new-equal.ensures c.in_ok-add_components.ensures c.as_slice-4.ensures).0

pub add_rows-requires-2-clause-room : goal.add_rows-requires-2-clause-room
add_rows-requires-2-clause-room c =
    let a = domain_fit c.args.params c.args.domain.now c.args.times.now c.args.inverse.now c.requires c.as_slice.result.now (c.as_slice.ensures.value ∙ c.in_ok-images.ensures) _ _ c.as_slice-3.result.now c.new-rows.ensures.items c.in_ok-add_images.ensures c.as_slice-3.ensures.value in
    let b = times_fit c.args.params c.args.domain.now c.args.times.now c.args.inverse.now c.requires c.as_slice-2.result.now (c.as_slice-2.ensures.value ∙ c.in_ok-images.ensures) _ _ c.as_slice-4.result.now c.new-equal.ensures c.in_ok-add_components.ensures c.as_slice-4.ensures in
    let n : length c.add_rows.new.system.rows ≡ length c.as_slice-3.result.now = ap (λ (s : Rows). length s.rows) c.in_ok-add_rows.ensures ∙ ap (λ (s : Rows). length (s.rows ++ c.as_slice-3.result.now)) c.new-system.ensures in
    omega (arith, n, a.1, b.1)

use Rattle.std.proofs.Common.{◌≡◌, length, refl, arith, subst}
use Rattle.std.specs.Prelude.{slice_get, Some}
use Rattle.std.proofs.lemmas.Option.{slice_get_read}
use Rattle.affc_system.specs.Systems.{IsRow, Meets}
use Rattle.affc_conflicts.proofs.Decided.{all_at}
use Rattle.affc_moduli.proofs.bounds.has_broken_row.Goals as goal

pub is_broken-requires : goal.is_broken-requires
is_broken-requires c =
    let here : slice_get c.rows-row-items.result.now c.loop-row.row-index ≡ Some c.row-item.result =
    slice_get_read c.rows-row-items.result.now (length c.rows-row-items.result.now) c.loop-row.row-index c.row-item.result refl (omega arith) c.row-item.is in
    record { row = all_at (IsRow c.args.region.now.system.columns) c.rows-row-items.result.now c.rows-row-items.ensures.fit c.loop-row.row-index c.row-item.result here }

pub returns-then-is_broken : goal.returns-then-is_broken
returns-then-is_broken c =
    let here : slice_get c.rows-row-items.result.now c.loop-row.row-index ≡ Some c.row-item.result =
    slice_get_read c.rows-row-items.result.now (length c.rows-row-items.result.now) c.loop-row.row-index c.row-item.result refl (omega arith) c.row-item.is in
    λ _ z inside. c.if-is_broken.ensures refl z inside (all_at (Meets z) c.args.region.now.system.rows inside.meets.meets c.loop-row.row-index c.row-item.result (subst (λ rs. slice_get rs c.loop-row.row-index ≡ Some c.row-item.result) c.rows-row-items.ensures.rows here))

use Rattle.std.proofs.Common.{◌≡◌, length, refl, arith, subst}
use Rattle.std.specs.Prelude.{slice_get, Some}
use Rattle.std.proofs.lemmas.Option.{slice_get_read}
use Rattle.affc_system.specs.Systems.{IsRow, Meets}
use Rattle.affc_conflicts.proofs.Decided.{all_at}
use Rattle.affc_moduli.proofs.bounds.has_barred_row.Goals as goal

pub is_barred-requires-clause-row : goal.is_barred-requires-clause-row
is_barred-requires-clause-row c =
    let here : slice_get c.rows-row-items.result.now c.loop-i.i ≡ Some c.row-item.result =
    slice_get_read c.rows-row-items.result.now (length c.rows-row-items.result.now) c.loop-i.i c.row-item.result refl (omega arith) c.row-item.is in
    all_at (IsRow c.args.region.now.system.columns) c.rows-row-items.result.now c.rows-row-items.ensures.fit c.loop-i.i c.row-item.result here

pub returns-then-is_barred : goal.returns-then-is_barred
returns-then-is_barred c =
    let here : slice_get c.rows-row-items.result.now c.loop-i.i ≡ Some c.row-item.result =
    slice_get_read c.rows-row-items.result.now (length c.rows-row-items.result.now) c.loop-i.i c.row-item.result refl (omega arith) c.row-item.is in
    λ _ z inside. c.if-is_barred.ensures refl z inside (all_at (Meets z) c.args.region.now.system.rows inside.meets.meets c.loop-i.i c.row-item.result (subst (λ rs. slice_get rs c.loop-i.i ≡ Some c.row-item.result) c.rows-row-items.ensures.rows here))

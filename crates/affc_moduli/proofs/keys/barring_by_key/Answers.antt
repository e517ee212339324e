use Rattle.std.proofs.Common.{◌≡◌, length, refl, ap, arith, subst}
use Rattle.std.specs.Prelude.{slice_get, Some}
use Rattle.std.proofs.lemmas.Option.{slice_get_read}
use Rattle.affc_system.specs.Systems.{IsRow}
use Rattle.affc_conflicts.proofs.Decided.{all_at}
use Rattle.affc_moduli.proofs.keys.barring_by_key.Goals as goal

pub bars-requires-clause-other : goal.bars-requires-clause-other
bars-requires-clause-other c =
    let rows = c.rows-rows.result.now in
    let here : slice_get rows c.loop-i.i ≡ Some c.index-rows-i.result = slice_get_read rows (length rows) c.loop-i.i c.index-rows-i.result refl (omega (arith, ap length c.rows-rows.ensures.rows)) c.index-rows-i.is in
    (all_at (IsRow c.args.system.now.columns) rows c.rows-rows.ensures.fit c.loop-i.i c.index-rows-i.result here).fits

pub returns-then-bars : goal.returns-then-bars
returns-then-bars c =
    let rows = c.rows-rows.result.now in
    let here : slice_get rows c.loop-i.i ≡ Some c.index-rows-i.result = slice_get_read rows (length rows) c.loop-i.i c.index-rows-i.result refl (omega (arith, ap length c.rows-rows.ensures.rows)) c.index-rows-i.is in
    record {
      other = c.index-rows-i.result;
      there = subst (λ rs. slice_get rs c.loop-i.i ≡ Some c.index-rows-i.result) c.rows-rows.ensures.rows here;
      opposite = c.if-bars.ensures.opposite refl;
      low = c.if-bars.ensures.low refl;
    }

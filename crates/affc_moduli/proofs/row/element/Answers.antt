use Rattle.std.proofs.Common.{rules, ◌≡◌, ◌≤◌, ◌^◌, length, refl, arith}
use Rattle.std.specs.Prelude.{FitsSigned, unsigned_abs, slice_get, Some}
use Rattle.std.specs.Int.{w64}
use Rattle.std.proofs.lemmas.Int.{to_z-of_z}
use Rattle.std.proofs.lemmas.Option.{slice_get_read}
use Rattle.affc_rows.specs.Forms.{Affine, value}
use Rattle.affc_system.specs.Pairs.{IsSubscript}
use Rattle.affc_conflicts.proofs.Decided.{all_at}
use Rattle.affc_moduli.proofs.Whole.{one_value_more}
use Rattle.affc_moduli.proofs.row.element.Goals as goal

pub subscript_at-requires : goal.subscript_at-requires
subscript_at-requires c =
    let forms = c.args.forms.now in
    let point = c.args.point.now in
    let i = c.loop-form.form-index in
    let here : slice_get forms i ≡ Some c.form-item.result = slice_get_read forms (length forms) i c.form-item.result refl (omega arith) c.form-item.is in
    record {
      subscript = all_at (IsSubscript (length point)) forms c.requires.subscripts i c.form-item.result here;
      few = c.requires.few;
      near = all_at (λ (f : Affine). unsigned_abs (value f point) ≤ 2 ^ 43) forms c.requires.near i c.form-item.result here;
    }

pub loop-form-preserved : goal.loop-form-preserved
loop-form-preserved c =
    let fits : FitsSigned w64 c.subscript_at.result = search rules in
    let pushed = simp to_z-of_z at c.in_ok-push.ensures.items in
    one_value_more c.args.forms.now c.args.point.now c.loop-form.form-index c.form-item.result c.loop-form.x.items _ c.subscript_at.result (omega arith) c.form-item.is pushed c.subscript_at.ensures c.loop-form.invariant

use Rattle.std.proofs.Common.{sym, ap, ◌∙◌}
use Rattle.affc_rows.specs.Forms.{Affine}
use Rattle.affc_plan.proofs.ColumnForms.{column_parts, parts_of_column}
use Rattle.affc_plan.proofs.maps.is_column.Goals as goal

pub returns : goal.returns
returns c =
    let f = c.args.form.now in
    let e = c.in_ok-unit.ensures.value in
    let number = ap (λ (g : Affine). g.constant) e in
    let coefs = ap (λ (g : Affine). g.coefs) e in (
      λ t. let p = c.is_same.ensures.0 t in column_parts f c.args.columns c.args.at (p.0 ∙ number) (p.1 ∙ coefs),
      λ q. let r = parts_of_column f c.args.columns c.args.at q in c.is_same.ensures.1 (r.0 ∙ sym number, r.1 ∙ sym coefs),
    )

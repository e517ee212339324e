use Rattle.std.proofs.Common.{rules, ◌≡◌, ◌<◌, length, get_or, FitsSigned, arith, refl, sym, ap, ◌∙◌, Some}
use Rattle.std.specs.Prelude.{slice_get, option_map}
use Rattle.std.specs.Int.{w64, w128, int_rem_euclid}
use Rattle.std.proofs.lemmas.Int.{to_z-of_z}
use Rattle.std.proofs.lemmas.Option.{slice_get_read, slice_get-map}
use Rattle.affc_rows.specs.Forms.{dot}
use Rattle.affc_basis.specs.Folds.{forms_of}
use Rattle.affc_basis.proofs.Remainders.{remainder-at}
use Rattle.affc_basis.proofs.fold.Fold.place.Goals as goal

pub returns : goal.returns
returns c =
    let fr : FitsSigned w64 c.reduced.result = search rules in
    let fa : FitsSigned w128 c.products-along.result = search rules in
    let fm : FitsSigned w128 c.modulus_at.result = search rules in
    let reduced = simp to_z-of_z at c.reduced.ensures in
    let rows = c.args.self.now.basis.rows in
    let moduli = c.args.self.now.moduli in
    let k = c.args.k in
    let row = c.index-as_slice-k.result in
    let modulus = c.index-as_slice-k-2.result in
    let in_rows : k < length rows = c.requires.within in
    let each : length moduli ≡ length rows = c.args.self.now.one_each in
    let in_moduli : k < length moduli = omega arith in
    let at_row : slice_get rows k ≡ Some row = slice_get_read rows (length rows) k row refl in_rows (c.index-as_slice-k.is ∙ ap (λ l. get_or l k row) c.as_slice.ensures) in
    let at_modulus : slice_get moduli k ≡ Some modulus = slice_get_read moduli (length moduli) k modulus refl in_moduli (c.index-as_slice-k-2.is ∙ ap (λ l. get_or l k modulus) c.as_slice-2.ensures) in
    let at_form : slice_get (forms_of moduli) k ≡ Some modulus.form = slice_get-map (λ m. m.form) moduli k ∙ ap (option_map (λ m. m.form)) at_modulus in
    let along : c.products-along.result ≡ dot row.coefs c.args.element.now = c.products-along.ensures.value ∙ ap (λ l. dot l c.args.element.now) (c.as_slice-3.ensures ∙ ap (λ v. v.coefs) c.row.view_is) in
    simp to_z-of_z (
    remainder-at c.args.p.now rows (forms_of moduli) c.args.element.now k row modulus.form at_row at_form
    ∙ ap Some (sym (reduced ∙ ap (λ u. int_rem_euclid u c.modulus_at.result) along ∙ ap (int_rem_euclid (dot row.coefs c.args.element.now)) c.modulus_at.ensures.value)))

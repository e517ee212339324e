use Rattle.std.proofs.Common.{length, sym, ap, ◌∙◌, rules}
use Rattle.std.specs.Prelude.{FitsSigned}
use Rattle.std.specs.Int.{w128}
use Rattle.std.proofs.lemmas.Bool.{eqb-true}
use Rattle.std.proofs.lemmas.Int.{to_z-of_z}
use Rattle.affc_rows.specs.Forms.{Affine}
use Rattle.affc_rows.proofs.VocabularyLemmas.{no_image}
use Rattle.affc_rows.proofs.form.Form.at_images.Goals as goal

pub returns-then-is_empty : goal.returns-then-is_empty
returns-then-is_empty c =
    let k = c.self.inside.constant in
    let fits : FitsSigned w128 k = search rules in
    no_image c.args.columns c.args.images.now c.args.self.now _ c.number.result
    (eqb-true (length c.args.images.now) 0 (sym c.is_empty.ensures ∙ c.if-is_empty.true)) c.requires.one_each
    (to_z-of_z w128 k fits ∙ ap (λ (f : Affine). f.constant) c.self.view_is) c.number.ensures.value

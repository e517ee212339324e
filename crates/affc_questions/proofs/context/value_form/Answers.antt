use Rattle.std.proofs.Common.{◌≡◌, to_z, of_z, rules, sym, ap, subst, ◌∙◌}
use Rattle.std.specs.Prelude.{FitsSigned}
use Rattle.std.specs.Int.{w128}
use Rattle.std.proofs.lemmas.Int.{to_z-of_z}
use Rattle.std.proofs.lemmas.Result.{IfOk-weaker}
use Rattle.affc_rows.specs.Forms.{Affine, value}
use Rattle.affc_nest.specs.Domains.{number_form}
use Rattle.affc_nest.specs.Wide.{IsWide}
use Rattle.affc_questions.proofs.SizeLemmas.{value_wide, modulus_fits}
use Rattle.affc_questions.proofs.context.value_form.Goals as goal

pub value_at-value-requires-clause-fits : goal.value_at-value-requires-clause-fits
value_at-value-requires-clause-fits c = modulus_fits c.args.columns c.args.modulus.now c.requires.modulus

pub returns : goal.returns
returns c =
    let n = c.args.columns in
    let v = value c.args.modulus.now c.args.p.now in
    let fit : FitsSigned w128 c.value_at-value.result = search rules in
    let is : (f : Affine) → f ≡ number_form n (to_z w128 (of_z w128 c.value_at-value.result)) → f ≡ number_form n v = λ f e. e ∙ ap (number_form n) (to_z-of_z w128 c.value_at-value.result fit ∙ c.value_at-value.ensures) in
    record {
      value = IfOk-weaker c.number.result _ _ is c.number.ensures.value;
      wide = IfOk-weaker c.number.result _ (IsWide n) (λ f e. subst (IsWide n) (sym (is f e)) (value_wide n c.args.modulus.now c.args.p.now c.requires.few c.requires.modulus c.words_are_near.ensures)) c.number.ensures.value;
    }

use Rattle.std.proofs.Common.{ap, ◌∙◌, rules, FitsSigned, w64, to_z, of_z}
use Rattle.std.specs.Int.{w128}
use Rattle.std.proofs.lemmas.Int.{to_z-of_z}
use Rattle.affc_loops.proofs.terms.TermSteps.{form_case}
use Rattle.affc_loops.proofs.terms.forms.form_ix.Goals as goal

pub returns : goal.returns
returns c =
    let fits : FitsSigned w64 c.narrow-constant.result = search rules in
    let wide : FitsSigned w128 c.form.inside.constant = search rules in
    form_case c.in_ok-made.made c.args.first c.args.from c.args.form.now c.as_slice-coefs.result.now c.in_ok-sum.sum c.in_ok-sum-2.sum (to_z w64 (of_z w64 c.narrow-constant.result))
    c.in_ok-made.ensures c.in_ok-sum-2.ensures c.in_ok-sum.ensures (c.as_slice-coefs.ensures ∙ ap (λ f. f.coefs) c.form.view_is)
    (to_z-of_z w64 c.narrow-constant.result fits ∙ c.narrow-constant.ensures ∙ to_z-of_z w128 c.form.inside.constant wide ∙ ap (λ f. f.constant) c.form.view_is)

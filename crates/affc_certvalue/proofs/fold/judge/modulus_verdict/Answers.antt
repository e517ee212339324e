use Rattle.std.proofs.Common.{◌≡◌, true, ap, ap₂, sym, ◌∙◌, pos, rules}
use Rattle.serde_json.specs.View.{view}
use Rattle.affc_certvalue.specs.Verdicts.{worse, at_key, list, form_over}
use Rattle.affc_certvalue.specs.fold.Folds.{nullable, witness}
use Rattle.affc_certvalue.specs.Keys.{has_keys}
use Rattle.affc_certvalue.proofs.fold.Keyed.{modulus_names, modulus_members}
use Rattle.affc_certvalue.proofs.fold.judge.modulus_verdict.Goals as goal

pub returns : goal.returns
returns c =
    let form = list (form_over c.args.parameters (pos 1073741824) (pos 36028797018963968)) in
    let least = nullable (witness c.args.parameters) in
    let keys : has_keys modulus_names (view c.args.value.now) ≡ true = search rules in
    c.and.ensures ∙ ap₂ worse (c.modulus_form_verdict-form.ensures ∙ ap (at_key form) c.get.ensures) (c.least_verdict.ensures ∙ ap (at_key least) c.get-2.ensures)
    ∙ sym (modulus_members form least (view c.args.value.now) keys)

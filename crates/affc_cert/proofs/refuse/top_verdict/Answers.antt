use Rattle.std.proofs.Common.{◌≡◌, true, length, ap, ap₂, sym, ◌∙◌, rules}
use Rattle.serde_json.specs.View.{view}
use Rattle.affc_certvalue.specs.Keys.{has_keys}
use Rattle.affc_cert.specs.Refusals.{counted, fine}
use Rattle.affc_certvalue.specs.Verdicts.{any_number, at_key, list, many, worse}
use Rattle.affc_cert.proofs.Keyed.{names, whole_members}
use Rattle.affc_cert.proofs.refuse.top_verdict.Goals as goal

pub returns : goal.returns
returns c =
    let d = view c.args.value.now in
    let layout = c.args.layout.now in
    let context = list (many layout.parameters any_number) in
    let flow = list (counted (length layout.loads)) in
    let folds = list (counted (length layout.temporaries)) in
    let keys : has_keys names d ≡ true = search rules in
    let first = c.there_verdict-version.ensures ∙ ap (at_key fine) c.get.ensures in
    let second = c.parameters_verdict-context.ensures ∙ ap (at_key context) c.get-2.ensures in
    let third = c.counted_verdict-flow.ensures ∙ ap₂ (λ n o. at_key (list (counted n)) o) c.len.ensures c.get-3.ensures in
    let fourth = c.counted_verdict-folds.ensures ∙ ap₂ (λ n o. at_key (list (counted n)) o) c.len-2.ensures c.get-4.ensures in
    let fifth = c.list_verdict-proofs.ensures ∙ ap (at_key (list fine)) c.get-5.ensures in
    c.and-4.ensures ∙ ap₂ worse first (c.and-3.ensures ∙ ap₂ worse second (c.and-2.ensures ∙ ap₂ worse third (c.and.ensures ∙ ap₂ worse fourth fifth))) ∙ sym (whole_members fine context flow folds (list fine) d keys)

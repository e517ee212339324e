-- The command that is built, argument by argument.
use Rattle.std.proofs.Common.{rules, ◌≡◌, ◌∙◌, ap₂, [], codes}
use Rattle.std.proofs.lemmas.Result.{IfOk-weaker}
use Rattle.clap.specs.Simple.{app_of, with_rule}
use Rattle.clap.specs.Walk.{rule_of}
use Rattle.affc_words.specs.Parsed.{app_with, operand_rule, further_rule, option_rule}
use Rattle.affc_words.proofs.words.fold_form.Goals as goal

pub returns : goal.returns
returns c =
    let start_is : app_of c.disable_help_flag.result ≡ app_with (codes "fold") [] = search rules in
    let source_is : rule_of c.required.result ≡ operand_rule (codes "source") = search rules in
    let schedule_is : rule_of c.new-3.result ≡ further_rule (codes "schedule") = search rules in
    let budget_is : rule_of c.long.result ≡ option_rule (codes "budget") = search rules in
    let cost_is : rule_of c.long-2.result ≡ option_rule (codes "cost") = search rules in
    let cert_is : rule_of c.long-3.result ≡ option_rule (codes "cert") = search rules in
    IfOk-weaker c.arg-5.result _ _ (λ r h. h.shape (search rules)
    ∙ ap₂ with_rule (c.in_ok-arg-4.ensures.shape (search rules)
    ∙ ap₂ with_rule (c.in_ok-arg-3.ensures.shape (search rules) ∙ ap₂ with_rule (c.in_ok-arg-2.ensures.shape (search rules) ∙ ap₂ with_rule (c.in_ok-arg.ensures.shape (search rules) ∙ ap₂ with_rule start_is source_is) schedule_is) budget_is) cost_is) cert_is)
    c.arg-5.ensures

-- The command that is built, argument by argument.
use Rattle.std.proofs.Common.{rules, ◌≡◌, ◌∙◌, ap₂, [], codes}
use Rattle.std.proofs.lemmas.Result.{IfOk-weaker}
use Rattle.clap.specs.Simple.{app_of, with_rule}
use Rattle.clap.specs.Walk.{rule_of}
use Rattle.affc_words.specs.Parsed.{app_with, operand_rule}
use Rattle.affc_words.proofs.words.replay_form.Goals as goal

pub returns : goal.returns
returns c =
    let start_is : app_of c.disable_help_flag.result ≡ app_with (codes "replay") [] = search rules in
    let source_is : rule_of c.required.result ≡ operand_rule (codes "source") = search rules in
    let schedule_is : rule_of c.required-2.result ≡ operand_rule (codes "schedule") = search rules in
    let certificate_is : rule_of c.required-3.result ≡ operand_rule (codes "certificate") = search rules in
    IfOk-weaker c.arg-3.result _ _ (λ r h. h.shape (search rules)
    ∙ ap₂ with_rule (c.in_ok-arg-2.ensures.shape (search rules) ∙ ap₂ with_rule (c.in_ok-arg.ensures.shape (search rules) ∙ ap₂ with_rule start_is source_is) schedule_is) certificate_is)
    c.arg-3.ensures

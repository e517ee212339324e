-- The command that is built.
use Rattle.std.proofs.Common.{rules, ◌≡◌, ◌∙◌, ap₂, [], codes}
use Rattle.std.proofs.lemmas.Result.{IfOk-weaker}
use Rattle.clap.specs.Simple.{app_of, with_rule}
use Rattle.clap.specs.Walk.{rule_of}
use Rattle.affc_words.specs.Parsed.{app_with, operand_rule}
use Rattle.affc_words.proofs.words.flow_form.Goals as goal

pub returns : goal.returns
returns c =
    let start_is : app_of c.disable_help_flag.result ≡ app_with (codes "flow") [] = search rules in
    let source_is : rule_of c.required.result ≡ operand_rule (codes "source") = search rules in
    IfOk-weaker c.arg.result _ _ (λ r h. h.shape (search rules) ∙ ap₂ with_rule start_is source_is) c.arg.ensures

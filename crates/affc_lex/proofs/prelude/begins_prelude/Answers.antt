use Rattle.std.proofs.Common.{◌∙◌, ap}
use Rattle.affc_lex.specs.Bytes.{begins}
use Rattle.affc_lex.proofs.Runs.{begins_is}
use Rattle.affc_lex.proofs.prelude.begins_prelude.Goals as goal

pub returns : goal.returns
returns c =
    c.starts_with.ensures.value ∙ begins_is c.as_bytes.result.now c.args.text.now ∙ ap (λ b. begins b c.args.text.now) c.as_bytes.ensures.value

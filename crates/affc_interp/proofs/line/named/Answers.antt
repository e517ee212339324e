use Rattle.std.proofs.Common.{◌∙◌}
use Rattle.affc_interp.proofs.DataLines.{named_either}
use Rattle.affc_interp.proofs.line.named.Goals as goal

pub returns-in-Some : goal.returns-in-Some
returns-in-Some c = named_either c.args.word.now c.args.name.now c.as_bytes.result.now c.args.text.now c.in-Some.text.now c.after-in-Some.result (c.as_bytes.ensures.value ∙ c.as_str.ensures) c.in-Some.ensures c.after-in-Some.ensures

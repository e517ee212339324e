use Rattle.std.proofs.Common.{string_bytes}
use Rattle.affc_cprint.proofs.Programs.{whole_text}
use Rattle.affc_cprint.proofs.program.text.Goals as goal

pub returns : goal.returns
returns c = whole_text (string_bytes c.function.new.out) c.args.program.now c.new-out.ensures.bytes c.in_ok-before_function.ensures c.in_ok-function.ensures

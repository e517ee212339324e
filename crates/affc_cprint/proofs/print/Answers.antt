use Rattle.std.proofs.Common.{◌≡◌, rules}
use Rattle.affc_cprint.specs.Layout.{printed_text}
use Rattle.affc_cprint.proofs.Converse.{reads_back}
use Rattle.affc_cprint.proofs.print.Goals as goal

pub returns-in-Ok-clause-reads : goal.returns-in-Ok-clause-reads
returns-in-Ok-clause-reads c =
    let text : c.into_bytes.result.items ≡ printed_text c.args.program.now = search rules in
    reads_back c.args.program.now c.into_bytes.result.items text

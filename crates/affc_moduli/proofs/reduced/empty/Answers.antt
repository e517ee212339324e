use Rattle.affc_moduli.proofs.OneRow.{emptied}
use Rattle.affc_moduli.proofs.reduced.empty.Goals as goal

pub returns : goal.returns
returns c = emptied c.args.region.now _ c.columns.result c.in_ok-system.ensures c.columns.ensures.value c.requires.some c.requires.void

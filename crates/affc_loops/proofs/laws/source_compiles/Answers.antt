use Rattle.affc_loops.proofs.SourceOrder.{source_compiles}
use Rattle.affc_loops.proofs.laws.source_compiles.Goals as goal

pub returns : goal.returns
returns c = record { law = source_compiles }

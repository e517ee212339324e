use Rattle.affc_loops.proofs.SourceOrder.{source_runs_target}
use Rattle.affc_loops.proofs.laws.source_runs_target.Goals as goal

pub returns : goal.returns
returns c = record { law = source_runs_target }

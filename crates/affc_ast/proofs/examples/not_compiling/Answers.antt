use Rattle.affc_ast.proofs.CounterProofs as x
use Rattle.affc_ast.proofs.examples.not_compiling.Goals as goal

pub returns : goal.returns
returns c = record { names_differ = x.names_differ; ranges_differ = x.ranges_differ; contexts_differ = x.contexts_differ; runs_differ = x.runs_differ }

use Rattle.affc_rewrite.proofs.ExampleProofs as x
use Rattle.affc_rewrite.proofs.examples.calls.Goals as goal

pub returns : goal.returns
returns c = record { in_expressions = x.calls_in_expressions; in_values = x.calls_in_values; in_statements = x.calls_in_statements }

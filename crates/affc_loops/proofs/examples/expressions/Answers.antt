use Rattle.affc_loops.proofs.ExampleProofs.{forms_as_expressions}
use Rattle.affc_loops.proofs.examples.expressions.Goals as goal

pub returns : goal.returns
returns c = record { forms_as_expressions = forms_as_expressions }

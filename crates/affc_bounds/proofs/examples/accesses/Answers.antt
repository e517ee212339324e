use Rattle.affc_bounds.proofs.ExampleProofs as example
use Rattle.affc_bounds.proofs.examples.accesses.Goals as goal

pub returns : goal.returns
returns c = record { parameters = example.parameters_before_statements; iterators = example.statements_then_iterators; access = example.loads_before_the_store }

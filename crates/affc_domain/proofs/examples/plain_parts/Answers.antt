use Rattle.affc_domain.proofs.ExampleProofs as x
use Rattle.affc_domain.proofs.examples.plain_parts.Goals as goal

pub returns : goal.returns
returns c = record { plain_expressions = x.plain_expressions; plain_tests = x.plain_tests; plain_values = x.plain_values; plain_ranges = x.plain_ranges; plain_declarations = x.plain_declarations }

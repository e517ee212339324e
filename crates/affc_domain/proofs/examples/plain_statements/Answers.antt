use Rattle.affc_domain.proofs.ExampleProofs as x
use Rattle.affc_domain.proofs.examples.plain_statements.Goals as goal

pub returns : goal.returns
returns c = record { upward_loops = x.upward_loops; sixteen_accesses = x.sixteen_accesses; plain_assignments = x.plain_assignments; six_loops = x.six_loops; plain_loops = x.plain_loops; thirty_two_comparisons = x.thirty_two_comparisons; plain_conditions = x.plain_conditions; no_locals = x.no_locals }

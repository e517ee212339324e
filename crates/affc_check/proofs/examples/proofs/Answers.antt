use Rattle.affc_check.proofs.ExampleProofs as x
use Rattle.affc_check.proofs.examples.proofs.Goals as goal

pub returns : goal.returns
returns c = record { one_proof_each = x.one_proof_each; each_is_looked_at = x.each_is_looked_at; questions_keep_limits = x.questions_keep_limits; few_rows_at_nodes = x.few_rows_at_nodes }

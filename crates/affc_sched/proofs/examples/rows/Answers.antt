use Rattle.affc_sched.proofs.ExampleProofs as example
use Rattle.affc_sched.proofs.examples.rows.Goals as goal

pub returns : goal.returns
returns c = record { of_a_question = example.rows_of_a_question; of_two_statements = example.rows_of_two_statements }

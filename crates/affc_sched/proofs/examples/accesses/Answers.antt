use Rattle.affc_sched.proofs.ExampleProofs as example
use Rattle.affc_sched.proofs.examples.accesses.Goals as goal

pub returns : goal.returns
returns c = record { last_one_stores = example.last_one_stores; stores_of_one_array = example.stores_of_one_array; questions_in_order = example.questions_in_order; source_is_legal = example.source_is_legal }

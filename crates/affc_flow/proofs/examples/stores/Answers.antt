use Rattle.affc_flow.proofs.ExampleProofs as lemma
use Rattle.affc_flow.proofs.examples.stores.Goals as goal

pub returns : goal.returns
returns c = record { rows_of_a_store = lemma.rows_of_a_store; own_store_is_later = lemma.own_store_is_later; no_such_store = lemma.no_such_store }

use Rattle.affc_flow.proofs.ExampleProofs as lemma
use Rattle.affc_flow.proofs.examples.inputs.Goals as goal

pub returns : goal.returns
returns c = record { no_store = lemma.no_store; loads_in_order = lemma.loads_in_order }

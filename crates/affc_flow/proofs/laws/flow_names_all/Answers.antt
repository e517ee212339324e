use Rattle.affc_flow.proofs.FlowLemmas as lemma
use Rattle.affc_flow.proofs.laws.flow_names_all.Goals as goal

pub returns : goal.returns
returns c = record { law = lemma.flow_names_all }

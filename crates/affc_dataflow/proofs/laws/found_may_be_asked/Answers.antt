use Rattle.affc_dataflow.proofs.PointLemmas as lemma
use Rattle.affc_dataflow.proofs.laws.found_may_be_asked.Goals as goal

pub returns : goal.returns
returns c = record { law = lemma.found_may_be_asked }

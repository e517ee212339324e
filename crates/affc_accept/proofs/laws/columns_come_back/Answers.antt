use Rattle.affc_accept.proofs.ColumnLemmas as lemma
use Rattle.affc_accept.proofs.laws.columns_come_back.Goals as goal

pub returns : goal.returns
returns c = record { law = lemma.columns_come_back }

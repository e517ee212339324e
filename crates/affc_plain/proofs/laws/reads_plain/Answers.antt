use Rattle.affc_plain.proofs.Programs as lemma
use Rattle.affc_plain.proofs.laws.reads_plain.Goals as goal

pub returns : goal.returns
returns c = record { law = lemma.reads_plain }
